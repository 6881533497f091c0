use Rattle.std.proofs.Common.{◌≡◌, length}
use Rattle.scan_run.specs.Feeding.{SendsFull}
use Rattle.scan_run.proofs.sending.send_full.Given as goal

-- the first hits were sent, and the rest remain; no write failed
abbrev pub invariant-loop-hits : goal.invariant-loop-hits
invariant-loop-hits g l = record {
  sent_full : SendsFull l.stream l.fn.hits.items l.hits.items (g.W.ByteOut.written l.fn.out) (g.W.ByteOut.written l.out) l.fn.outbox l.outbox;
  flag : g.W.ByteOut.has_failed l.out ≡ g.W.ByteOut.has_failed l.fn.out;
}

abbrev pub decreases-loop-hits : goal.decreases-loop-hits
decreases-loop-hits g l = length l.hits.items
