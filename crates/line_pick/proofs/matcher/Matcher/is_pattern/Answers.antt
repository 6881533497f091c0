-- The null pattern is the empty line; else the literals decide, if there are any.
use Rattle.std.proofs.Common.{◌≡◌, true, sym, ap, ◌∙◌, Some}
use Rattle.std.specs.Option.{option_copied}
use Rattle.lit_base.specs.Literals.{Literals}
use Rattle.lit_base.specs.Selected.{matches}
use Rattle.line_pick.specs.Matching.{fold_of, literals_of}
use Rattle.line_pick.proofs.Patterns.{null-found, null-missed, no_plan, by_plan}
use Rattle.line_pick.proofs.matcher.Matcher.is_pattern.Goals as goal

pub returns-then-is_null : goal.returns-then-is_null
returns-then-is_null c =
    let plan = option_copied c.args.self.plan in
    sym (null-found (fold_of plan) c.args.self.has_empty (literals_of plan) c.args.line.now (sym c.is_null.ensures ∙ c.if-is_null.true))

pub returns-in-Some : goal.returns-in-Some
returns-in-Some c =
    let plan = option_copied c.args.self.plan in
    let known : plan ≡ Some c.in-Some.compiled.now = ap option_copied c.in-Some.is in
    c.is_literal.ensures ∙ ap (λ (l : Literals). matches l.folding true l.texts c.args.line.now) c.index.ensures
    ∙ by_plan true c.args.line.now plan c.in-Some.compiled.now known
    ∙ sym (null-missed (fold_of plan) c.args.self.has_empty (literals_of plan) c.args.line.now (sym c.is_null.ensures ∙ c.if-is_null.false))

pub returns-in-None : goal.returns-in-None
returns-in-None c =
    let plan = option_copied c.args.self.plan in
    sym (null-missed (fold_of plan) c.args.self.has_empty (literals_of plan) c.args.line.now (sym c.is_null.ensures ∙ c.if-is_null.false)
    ∙ no_plan true c.args.line.now plan (ap option_copied c.in-None.is))
