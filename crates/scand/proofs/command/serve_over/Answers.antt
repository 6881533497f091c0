-- Connections are served as the request says.
use Rattle.std.proofs.Common.{refl}
use Rattle.scand.proofs.command.serve_over.Goals as goal

pub returns-in-Listen-clause-serves : goal.returns-in-Listen-clause-serves
returns-in-Listen-clause-serves g c = rw c.in-Listen.is (refl, c.serve_port.ensures.serves)
