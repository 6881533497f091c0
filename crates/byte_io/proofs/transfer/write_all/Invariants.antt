-- The bytes gone from the rest were written, and no call has failed.
use Rattle.std.proofs.Common.{◌≡◌, length}
use Rattle.byte_io.proofs.TransferLemmas.{WritesPrefix}
use Rattle.byte_io.proofs.transfer.write_all.Given as goal

abbrev pub invariant-loop-rest : goal.invariant-loop-rest
invariant-loop-rest g l = record {
  prefix : WritesPrefix (g.W.ByteOut.written l.initial.out) (g.W.ByteOut.written l.out) l.piece l.rest;
  flag : g.W.ByteOut.has_failed l.out ≡ g.W.ByteOut.has_failed l.initial.out;
}

abbrev pub decreases-loop-rest : goal.decreases-loop-rest
decreases-loop-rest g l = length l.rest
