use Rattle.std.proofs.Common.{rules}
use Rattle.scan_wire.proofs.LiteralLemmas.{no_head}
use Rattle.scan_wire.proofs.reading.list_head.Goals as goal

pub returns-in_err-count-clause-none : goal.returns-in_err-count-clause-none
returns-in_err-count-clause-none c =
    rw c.from_residual-in_err-count.ensures (no_head c.args.payload.now c.in_ok-flags.flags.now c.in_ok-flags.rest.now (search rules) c.in_err-count.ensures.none)
