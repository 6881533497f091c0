-- The null pattern is a slice of each line; else the literals decide, if there are any.
use Rattle.std.proofs.Common.{◌≡◌, true, false, sym, ap, ◌∙◌, subst}
use Rattle.std.specs.Option.{option_copied}
use Rattle.line_pick.specs.Matching.{fold_of, literals_of}
use Rattle.lit_base.specs.Literals.{IsNormal}
use Rattle.line_pick.proofs.Literals.{ends-matches}
use Rattle.line_pick.proofs.Patterns.{by_plan, null-matches, null-misses, null-occurs, no_plan}
use Rattle.line_pick.proofs.matcher.Matcher.has_pattern.Goals as goal

pub returns-then-self : goal.returns-then-self
returns-then-self c =
    let plan = option_copied c.args.self.plan in
    sym (null-matches (fold_of plan) false c.args.self.has_empty (literals_of plan) c.args.line.now c.if-self.true (null-occurs (fold_of plan) c.args.line.now))

pub returns-in-None : goal.returns-in-None
returns-in-None c =
    let plan = option_copied c.args.self.plan in
    sym (null-misses (fold_of plan) false c.args.self.has_empty (literals_of plan) c.args.line.now
    (λ is. let both : true ≡ false = sym is ∙ c.if-self.false in absurd (cc))
    ∙ no_plan false c.args.line.now plan (ap option_copied c.in-None.is))

pub returns-in-Some : goal.returns-in-Some
returns-in-Some c =
    let plan = option_copied c.args.self.plan in
    let q = c.in-Some.compiled.now in
    let normal = subst IsNormal c.list.ensures c.normal_law.ensures in
    c.is_some.ensures ∙ ends-matches q.literals normal c.args.line.now c.first_end_after.result c.first_end_after.ensures
    ∙ by_plan false c.args.line.now plan q (ap option_copied c.in-Some.is)
    ∙ sym (null-misses (fold_of plan) false c.args.self.has_empty (literals_of plan) c.args.line.now
    (λ is. let both : true ≡ false = sym is ∙ c.if-self.false in absurd (cc)))
