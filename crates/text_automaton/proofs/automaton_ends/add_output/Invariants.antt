use Rattle.std.proofs.Common.{◌≡◌, ℕ, ◌<◌, ◌≤◌, ◌++◌, List, length, slice_index}
use Rattle.text_ends.proofs.HitLists.{AreHitsAtBefore}
use Rattle.text_automaton.proofs.automaton_ends.add_output.Given as goal

-- exactly the hits of the literals passed were added; they stand before the others
abbrev pub invariant-loop-place : goal.invariant-loop-place
invariant-loop-place l = record {
  from : ℕ;
  found : List (ℕ × ℕ);
  grown : l.out.items ≡ l.fn.out.items ++ found;
  added : AreHitsAtBefore l.list l.text l.end l.at from found;
  passed : (k : ℕ) → k < l.place → slice_index l.output k < from;
  left : (k : ℕ) → l.place ≤ k → k < length l.output → from ≤ slice_index l.output k;
  few : length found ≤ l.place;
}
