-- A request is served, or a message is said.
use Rattle.litplan.proofs.CommandLemmas.{served, unserved}
use Rattle.litplan.proofs.command.command.Goals as goal

pub returns-in-Ok-clause-ends : goal.returns-in-Ok-clause-ends
returns-in-Ok-clause-ends g c = served g.F.Output.ByteOut.written g.F.Output.ByteOut.has_failed c.in-Ok.request _ _ c.run.result _ _ _ _ _ _ _ c.run.ensures.ends

pub returns-in-Err-clause-ends : goal.returns-in-Err-clause-ends
returns-in-Err-clause-ends g c = unserved g.F.Output.ByteOut.written g.F.Output.ByteOut.has_failed c.in-Err.fault _ c.refuse.result _ _ _ _ _ c.refuse.ensures.status c.refuse.ensures.said
