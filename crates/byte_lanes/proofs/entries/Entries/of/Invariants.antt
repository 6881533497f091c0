use Rattle.byte_lanes.proofs.EntryLemmas.{AreEntriesBelow}
use Rattle.byte_lanes.proofs.entries.Entries.of.Given as goal

abbrev pub invariant-loop-half : goal.invariant-loop-half
invariant-loop-half l = AreEntriesBelow l.table l.halves l.values l.count l.half
