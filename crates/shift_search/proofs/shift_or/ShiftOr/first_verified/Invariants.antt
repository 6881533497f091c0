use Rattle.std.proofs.Common.{ℕ}
use Rattle.shift_search.specs.Probes.{AreProbes}
use Rattle.shift_search.proofs.shift_or.ShiftOr.first_verified.Given as goal

-- the remaining bits are a state of the search
abbrev pub invariant-ends : goal.invariant-ends
invariant-ends l = (start : ℕ) → AreProbes l.self l.text start l.probes → AreProbes l.self l.text start (record { at = l.probes.at; unruled = l.unruled; carried = l.probes.carried })

abbrev pub decreases-ends : goal.decreases-ends
decreases-ends l = l.unruled
