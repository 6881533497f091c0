use Rattle.std.proofs.Common.{◌≡◌, ℕ, ◌-◌, ◌≤◌, ◌++◌, List, length}
use Rattle.text_ends.proofs.HitLists.{AreHitsAtBefore}
use Rattle.text_ends.proofs.hits.add_all_at.Given as goal

-- exactly the hits of the literals passed were added
abbrev pub invariant-loop-place : goal.invariant-loop-place
invariant-loop-place l = record {
  literals : l.endings.literals ≡ l.list;
  text : l.endings.text ≡ l.text;
  end : l.endings.end ≡ l.end;
  found : List (ℕ × ℕ);
  grown : l.out.items ≡ l.fn.out.items ++ found;
  added : AreHitsAtBefore l.list l.text l.end l.at l.endings.from found;
  counted : l.endings.from ≤ length l.list.texts;
  few : length found ≤ l.endings.from;
}

abbrev pub decreases-loop-place : goal.decreases-loop-place
decreases-loop-place l = length l.list.texts - l.endings.from
