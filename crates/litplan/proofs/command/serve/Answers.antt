-- The words cannot be read.
use Rattle.litplan.proofs.CommandLemmas.{unserved}
use Rattle.litplan.proofs.command.serve.Goals as goal

pub returns-in-Err-clause-ends : goal.returns-in-Err-clause-ends
returns-in-Err-clause-ends g c = unserved g.F.Output.ByteOut.written g.F.Output.ByteOut.has_failed c.in-Err.fault _ c.refuse.result _ _ _ _ _ c.refuse.ensures.status c.refuse.ensures.said
