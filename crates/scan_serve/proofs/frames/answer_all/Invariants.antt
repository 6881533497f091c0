use Rattle.std.proofs.Common.{◌≡◌, ◌-◌, length}
use Rattle.scan_serve.specs.Answering.{AnswersAll}
use Rattle.scan_serve.proofs.frames.answer_all.Given as goal

-- these were answered, and no write failed
abbrev pub invariant-loop-len : goal.invariant-loop-len
invariant-loop-len g l = record {
  answers : AnswersAll g.S.Answer.step l.fn.session l.session l.bytes l.fn.place l.place (g.W.ByteOut.written l.fn.out) (g.W.ByteOut.written l.out) l.fn.outbox l.outbox;
  flag : g.W.ByteOut.has_failed l.out ≡ g.W.ByteOut.has_failed l.fn.out;
}

abbrev pub decreases-loop-len : goal.decreases-loop-len
decreases-loop-len g l = length l.bytes - l.place
