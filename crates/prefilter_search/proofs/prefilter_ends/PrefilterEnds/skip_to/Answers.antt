-- The candidates still come from the list's prefilter, and nothing ends before them.
use Rattle.std.proofs.Common.{length, ap, ◌∙◌, arith}
use Rattle.text_ends.specs.Walks.{Walk}
use Rattle.prefilter_search.proofs.prefilter_ends.PrefilterEnds.skip_to.Goals as goal

pub invariant_of-self : goal.invariant_of-self
invariant_of-self c =
    let none = c.skip_short_ends.ensures.none c.self.inside.text.now in
    let start = c.skip_to.ensures.from in (
      rw c.skip_to.ensures.prefilter c.self.invariant.0,
      c.skip_to.ensures.text ∙ c.self.invariant.1,
      omega (arith, start, c.min-start.ensures, c.skip_short_ends.ensures.ahead, c.requires, ap (λ (w : Walk). length w.text) c.self.view_is),
      λ end later within here. none end later (omega (arith, within, start, c.min-start.ensures)) here,
    )
