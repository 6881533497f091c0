use Rattle.std.proofs.Common.{get_or}
use Rattle.byte_lanes.specs.Entries.{entries_value}
use Rattle.byte_lanes.specs.Lanes.{HasLanes}
use Rattle.byte_lanes.proofs.entries.Entries.look_up.Given as goal

abbrev pub invariant-loop-i : goal.invariant-loop-i
invariant-loop-i l = HasLanes l.sum (λ k. entries_value l.self.halves l.self.values l.i (get_or l.halves k 0))
