use Rattle.std.proofs.Common.{◌/◌, ◌<◌}
use Rattle.shift_search.specs.ShiftOr.{IsCleared, IsPassOf, IsShort}
use Rattle.shift_search.proofs.entries.without_ends.Given as goal

-- the bits of the positions so far are cleared
abbrev pub invariant-loop-ahead : goal.invariant-loop-ahead
invariant-loop-ahead l = IsCleared l.entry l.found (λ bit. IsPassOf IsShort l.literal l.bucket bit × (bit / 8 < l.ahead))
