-- The candidates come from the list's prefilter, and nothing ends before them.
use Rattle.std.proofs.Common.{arith}
use Rattle.prefilter_search.proofs.prefilter_ends.PrefilterEnds.after.Goals as goal

pub invariant_of-result : goal.invariant_of-result
invariant_of-result c =
    let none = c.skip_short_ends.ensures.none c.args.text.now in
    let start = c.new-candidates.ensures.from in (
      rw c.new-candidates.ensures.prefilter c.requires.covers,
      c.new-candidates.ensures.text,
      omega (arith, start, c.min-start.ensures, c.skip_short_ends.ensures.ahead, c.requires.inside),
      λ end later within here. none end later (omega (arith, within, start, c.min-start.ensures)) here,
    )
