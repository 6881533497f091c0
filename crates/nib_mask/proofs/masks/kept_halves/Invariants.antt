use Rattle.std.proofs.Common.{◌≡◌, ◌≤◌, true, slice_range}
use Rattle.nib_mask.specs.FilterSet.{is_used, shares_half}
use Rattle.nib_mask.specs.Tables.{AreHalvesOf}
use Rattle.nib_mask.proofs.masks.kept_halves.Given as goal

-- the literals passed reach the position and their bits are set, and none is passed where the run is empty
abbrev pub invariant-loop-place : goal.invariant-loop-place
invariant-loop-place l =
    (is_used l.position (slice_range l.list.texts l.start l.place) ≡ true)
    × AreHalvesOf l.halves (λ value. shares_half l.fold l.position l.half value (slice_range l.list.texts l.start l.place))
    × (l.end ≤ l.start → l.place ≤ l.start)
