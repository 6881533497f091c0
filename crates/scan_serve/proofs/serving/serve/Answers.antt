use Rattle.scan_serve.proofs.ServeLemmas.{stops_first}
use Rattle.scan_serve.proofs.serving.serve.Goals as goal

pub returns-in_default-clause-ends : goal.returns-in_default-clause-ends
returns-in_default-clause-ends g c = stops_first g.S.Answer.step c.args.session.now (g.R.ByteIn.coming c.args.input.now) (g.W.ByteOut.written c.args.out.now)

pub returns-in-Ok-turns-clause-write_fault : goal.returns-in-Ok-turns-clause-write_fault
returns-in-Ok-turns-clause-write_fault g c = λ e. absurd (c.in-Ok-turns.ensures.no_stop (cc))
