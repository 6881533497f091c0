-- The port is not known, or reported, or could not be reported.
use Rattle.std.proofs.Common.{true, ◌≡◌, inl, refl, rules}
use Rattle.std.proofs.KnownBytes.{Appends-nil}
use Rattle.scand.specs.Commands.{Reported, Unreported}
use Rattle.scand.proofs.CommandLemmas.{unserved}
use Rattle.scand.proofs.command.serve_chosen.Goals as goal

pub returns-in_default-clause-serves : goal.returns-in_default-clause-serves
returns-in_default-clause-serves g c = unserved 0 c.args.connections.count _ _ _ _ _ _ c.cannot_listen.result c.usage.result c.cannot_listen.ensures c.usage.ensures c.refuse.ensures.status c.refuse.ensures.said

pub returns-in-Ok-say_port-clause-serves : goal.returns-in-Ok-say_port-clause-serves
returns-in-Ok-say_port-clause-serves g c = Reported (g.E.ByteOut.written c.say_port.new.err) (g.E.ByteOut.has_failed c.say_port.new.err) (inl (refl, c.port.result, c.in-Ok-say_port.ensures.ok)) c.listen.ensures.reported

pub returns-in-Err-clause-serves : goal.returns-in-Err-clause-serves
returns-in-Err-clause-serves g c =
    let failed : g.E.ByteOut.has_failed c.say_port.new.err ≡ true = search rules in
    Unreported c.port.result refl refl (Appends-nil (g.O.ByteOut.written c.args.out.now)) failed c.in-Err.ensures.err
