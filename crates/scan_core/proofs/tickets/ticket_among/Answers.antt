use Rattle.std.proofs.Common.{arith}
use Rattle.scan_core.proofs.TicketLemmas.{number_stranger}
use Rattle.scan_core.proofs.tickets.ticket_among.Goals as goal

pub returns-clause-stranger : goal.returns-clause-stranger
returns-clause-stranger c =
    number_stranger c.args.tickets.now c.args.number
    (λ i other within at. c.loop-place.invariant i other (omega (arith, within, c.loop-place-test.false)) at)
