use Rattle.std.proofs.Common.{◌≡◌, ℕ, ◌++◌, List, length}
use Rattle.std.specs.Io.KnownBytes.{Appends}
use Rattle.plan_run.specs.Listings.{hit_lines}
use Rattle.plan_run.proofs.listing.report_lines.Given as goal

-- the lines of the hits before the rest were written, and no write failed
abbrev pub invariant-loop-rest : goal.invariant-loop-rest
invariant-loop-rest g l = record {
  done : List (ℕ × ℕ);
  parts : l.hits ≡ done ++ l.rest;
  written : Appends (g.W.ByteOut.written l.fn.out) (g.W.ByteOut.written l.out) (hit_lines l.line l.compiled.literals done);
  flag : g.W.ByteOut.has_failed l.out ≡ g.W.ByteOut.has_failed l.fn.out;
}

abbrev pub decreases-loop-rest : goal.decreases-loop-rest
decreases-loop-rest g l = length l.rest
