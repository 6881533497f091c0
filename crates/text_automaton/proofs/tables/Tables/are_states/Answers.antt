-- One more state is right.
use Rattle.std.proofs.Common.{inl, inr, refl, subst, arith}
use Rattle.std.proofs.lemmas.Bool.{cases_lt}
use Rattle.text_automaton.specs.Tables.{IsState}
use Rattle.text_automaton.proofs.tables.Tables.are_states.Goals as goal

pub loop-state-preserved : goal.loop-state-preserved
loop-state-preserved c state low = elim (cases_lt state c.loop-state.state) [
  | inl sooner ↦ c.loop-state.invariant state sooner
  | inr there ↦ subst (IsState c.args.self.now c.args.count) (omega (arith, low, there)) (c.if-not-is_state.ensures refl)
]
