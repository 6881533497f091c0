use Rattle.std.proofs.Common.{◌≡◌, length}
use Rattle.scan_run.specs.Feeding.{HasFed}
use Rattle.scan_run.proofs.feeding.feed_whole.Given as goal

-- the piece was fed up to the rest, the session is of its store, and no write failed
abbrev pub invariant-loop-rest : goal.invariant-loop-rest
invariant-loop-rest g l = record {
  fed : HasFed l.fn.session l.stream l.piece l.rest l.hits.items l.session (g.W.ByteOut.written l.fn.out) (g.W.ByteOut.written l.out) l.fn.outbox l.outbox;
  flag : g.W.ByteOut.has_failed l.out ≡ g.W.ByteOut.has_failed l.fn.out;
  store : l.session.store ≡ l.fn.session.store;
}

abbrev pub decreases-loop-rest : goal.decreases-loop-rest
decreases-loop-rest g l = length l.rest
