-- A literal ends in the line where one is a slice of it; span by span none does so far.
use Rattle.std.proofs.Common.{None, arith, subst, sym, ◌∙◌}
use Rattle.lit_base.specs.Literals.{IsNormal}
use Rattle.line_pick.proofs.Literals.{ends-matches}
use Rattle.line_pick.proofs.SpanLemmas.{found-matches, none-found, none-further, none-in_line}
use Rattle.line_pick.proofs.matcher.has_literal.Goals as goal

pub returns-then-is_some-clause-value : goal.returns-then-is_some-clause-value
returns-then-is_some-clause-value c =
    let normal = subst IsNormal c.list.ensures c.normal_law.ensures in
    found-matches c.args.compiled.now.literals c.args.line.now c.spans.place c.min-stop.result c.next_end_by.result normal
    (rw (c.new-search.ensures, c.split_at.ensures.front) at c.next_end_by.ensures.next) (sym c.is_some.ensures ∙ c.if-is_some.true)

pub spans-preserved : goal.spans-preserved
spans-preserved c =
    let none = none-found c.args.compiled.now.literals c.args.line.now c.spans.place c.min-stop.result c.next_end_by.result
    (rw (c.new-search.ensures, c.split_at.ensures.front) at c.next_end_by.ensures.next) (sym c.is_some.ensures ∙ c.if-is_some.false) in
    record {
      finder = c.next_end_by.ensures.same ∙ c.spans.invariant.finder;
      within = omega (arith, c.min-stop.ensures);
      none = none-further c.args.compiled.now.literals c.args.line.now c.spans.place c.min-stop.result (omega (arith, c.min-stop.ensures)) c.spans.invariant.none none;
    }

pub returns-clause-value : goal.returns-clause-value
returns-clause-value c =
    let normal = subst IsNormal c.list.ensures c.normal_law.ensures in
    ends-matches c.args.compiled.now.literals normal c.args.line.now None
    (none-in_line c.args.compiled.now.literals c.args.line.now c.spans.place c.spans-test.false c.spans.invariant.none)
