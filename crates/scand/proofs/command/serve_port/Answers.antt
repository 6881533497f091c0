-- Nobody could listen, or a port was given, and nothing is said of it.
use Rattle.std.proofs.Common.{arith, inr, refl}
use Rattle.scand.specs.Commands.{Reported}
use Rattle.scand.proofs.CommandLemmas.{unserved}
use Rattle.scand.proofs.command.serve_port.Goals as goal

pub returns-in_default-clause-serves : goal.returns-in_default-clause-serves
returns-in_default-clause-serves g c = unserved c.args.port c.args.connections.count _ _ _ _ _ _ c.cannot_listen.result c.usage.result c.cannot_listen.ensures c.usage.ensures c.refuse.ensures.status c.refuse.ensures.said

pub returns-else-port-eq0-clause-serves : goal.returns-else-port-eq0-clause-serves
returns-else-port-eq0-clause-serves g c =
    Reported (g.E.ByteOut.written c.args.err.now) (g.E.ByteOut.has_failed c.args.err.now) (inr (λ zero. omega (arith, zero, c.if-port-eq0.false), refl)) c.listen.ensures.reported
