use Rattle.shift_search.specs.ShiftOr.{IsCleared, IsPass, IsShort}
use Rattle.shift_search.proofs.entries.without_short.Given as goal

-- the bits of the literals passed are cleared
abbrev pub invariant-loop-place : goal.invariant-loop-place
invariant-loop-place l = IsCleared l.entry l.found (IsPass l.list l.buckets IsShort l.place)
