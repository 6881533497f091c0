use Rattle.std.proofs.Common.{◌≡◌, ◌≢◌, ℕ, ◌-◌, ◌<◌, length, Some}
use Rattle.std.specs.List.{slice_get}
use Rattle.scan_core.specs.Sessions.{Bound}
use Rattle.scan_core.proofs.stream.find_stream.Given as goal

-- none of the streams so far has the number
abbrev pub invariant-loop-place : goal.invariant-loop-place
invariant-loop-place l = (i : ℕ) (other : ℕ × Bound) → i < l.place → slice_get l.streams i ≡ Some other → other.0 ≢ l.number

abbrev pub decreases-loop-place : goal.decreases-loop-place
decreases-loop-place l = length l.streams - l.place
