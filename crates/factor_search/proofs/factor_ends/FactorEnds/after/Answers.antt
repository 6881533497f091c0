-- Nothing ends before the pending ends.
use Rattle.std.proofs.Common.{inl, inr, arith}
use Rattle.std.proofs.lemmas.Bool.{cases_lt}
use Rattle.factor_search.proofs.factor_ends.FactorEnds.after.Goals as goal

pub invariant_of-result : goal.invariant_of-result
invariant_of-result c =
    let none = rw c.index.ensures at (c.skip_short_ends.ensures.none c.args.text.now) in
    let state = c.after-state.ensures in (
      state.state,
      omega (arith, state.ahead, c.min-start.ensures, c.skip_short_ends.ensures.ahead, c.requires),
      λ end later within here. elim (cases_lt c.min-start.result end) [
        | inl past ↦ state.none end past within here
        | inr sooner ↦ none end later (omega (arith, sooner, c.min-start.ensures)) here
      ],
    )
