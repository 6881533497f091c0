use Rattle.std.proofs.Common.{◌≡◌, ℕ, ◌≤◌, ◌-◌, List, length, take}
use Rattle.std.specs.Io.KnownBytes.{Appends}
use Rattle.text_ends.specs.HitsAfter.{AreHitsAfter}
use Rattle.plan_run.specs.Listings.{hit_lines}
use Rattle.plan_run.proofs.scanning.write_hits.Given as goal

-- the lines of the hits up to the next span were written, and no write failed
abbrev pub invariant-loop-from : goal.invariant-loop-from
invariant-loop-from g l = record {
  done : List (ℕ × ℕ);
  within : l.from ≤ length l.text;
  right : AreHitsAfter l.compiled.literals (take l.from l.text) 0 0 done;
  written : Appends (g.W.ByteOut.written l.fn.out) (g.W.ByteOut.written l.out) (hit_lines l.line l.compiled.literals done);
  flag : g.W.ByteOut.has_failed l.out ≡ g.W.ByteOut.has_failed l.fn.out;
}

abbrev pub decreases-loop-from : goal.decreases-loop-from
decreases-loop-from g l = length l.text - l.from
