-- All that is checked is right.
use Rattle.std.proofs.Common.{refl}
use Rattle.text_automaton.proofs.tables.Tables.are_right.Goals as goal

pub returns : goal.returns
returns c passed = record {
  sized = c.if-not-are_sized.ensures refl;
  classes = rw c.fold.ensures at (c.if-not-are_classes.ensures refl);
  states = rw c.len.ensures.value at (c.if-not-are_states.ensures refl);
  spelled = c.are_spelled.ensures passed;
}
