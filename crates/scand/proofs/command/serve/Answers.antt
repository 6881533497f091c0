-- A request was run, or the words were no command.
use Rattle.std.proofs.Common.{refl}
use Rattle.std.proofs.KnownBytes.{Appends-nil}
use Rattle.scand.specs.Commands.{Ran, Unread}
use Rattle.scand.proofs.command.serve.Goals as goal

pub returns-in-Ok-clause-ends : goal.returns-in-Ok-clause-ends
returns-in-Ok-clause-ends g c = Ran c.in-Ok.request c.run.ensures.runs

pub returns-in-Err-clause-ends : goal.returns-in-Err-clause-ends
returns-in-Err-clause-ends g c = Unread c.in-Err.fault c.refuse.ensures.status refl refl (Appends-nil (g.O.ByteOut.written c.args.out.now)) c.refuse.ensures.said
