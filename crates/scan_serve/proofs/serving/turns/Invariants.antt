use Rattle.std.proofs.Common.{◌≡◌, ◌+◌, ◌≤◌, []}
use Rattle.scan_serve.specs.Serving.{GoesOnServing}
use Rattle.scan_serve.proofs.serving.turns.Given as goal

-- no call failed so far
abbrev pub invariant-loop-turn : goal.invariant-loop-turn
invariant-loop-turn g l = record {
  goes : GoesOnServing g.S.Answer.step l.fn.session l.session (g.R.ByteIn.coming l.fn.input) (g.R.ByteIn.coming l.input) (g.W.ByteOut.written l.fn.out) (g.W.ByteOut.written l.out) l.fn.window l.window;
  empty : l.outbox ≡ [];
  turns : l._turn + g.R.ByteIn.given l.fn.input ≤ g.R.ByteIn.given l.input;
  unread : g.R.ByteIn.has_failed l.input ≡ g.R.ByteIn.has_failed l.fn.input;
  unwritten : g.W.ByteOut.has_failed l.out ≡ g.W.ByteOut.has_failed l.fn.out;
}
