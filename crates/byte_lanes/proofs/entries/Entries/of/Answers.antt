use Rattle.std.proofs.Common.{refl, arith}
use Rattle.byte_lanes.proofs.EntryLemmas.{entries_below_none, entries_below_skipped, entries_below_pushed}
use Rattle.byte_lanes.proofs.entries.Entries.of.Goals as goal
use Rattle.byte_lanes.proofs.entries.Entries.of.Goals.{then-value-ne0, else-value-ne0}

pub loop-half-init : goal.loop-half-init
loop-half-init c = entries_below_none c.args.table.now _ _ refl refl

pub loop-half-preserved : goal.loop-half-preserved
loop-half-preserved c =
    let table = c.args.table.now in
    let half = c.loop-half.half in
    elim c.if-value-ne0.branch [
      | then-value-ne0 w ↦ rw (w.halves-is, w.values-is, w.count-is) (entries_below_pushed table _ _ _ half (omega arith) c.loop-half.invariant)
      | else-value-ne0 w ↦ rw (w.halves-is, w.values-is, w.count-is) (entries_below_skipped table _ _ _ half (omega arith) c.loop-half.invariant)
    ]
