use Rattle.std.proofs.Common.{◌≡◌, ℕ, ◌≤◌, ◌-◌, List, length, take}
use Rattle.text_ends.specs.HitsAfter.{AreHitsAfter}
use Rattle.plan_run.proofs.scanning.write_count.Given as goal

-- the hits up to the next span were counted
abbrev pub invariant-loop-from : goal.invariant-loop-from
invariant-loop-from g l = record {
  done : List (ℕ × ℕ);
  within : l.from ≤ length l.text;
  right : AreHitsAfter l.compiled.literals (take l.from l.text) 0 0 done;
  counted : l.count ≡ length done;
}

abbrev pub decreases-loop-from : goal.decreases-loop-from
decreases-loop-from g l = length l.text - l.from
