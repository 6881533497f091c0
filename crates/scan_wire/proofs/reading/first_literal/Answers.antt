use Rattle.std.proofs.Common.{arith}
use Rattle.scan_wire.proofs.LiteralLemmas.{none_cut, none_short}
use Rattle.scan_wire.proofs.reading.first_literal.Goals as goal

pub returns-in_err-len-clause-none : goal.returns-in_err-len-clause-none
returns-in_err-len-clause-none c = rw c.from_residual.ensures (none_short c.args.bytes.now c.in_err-len.ensures.none)

pub returns-then-rest-len-clause-none : goal.returns-then-rest-len-clause-none
returns-then-rest-len-clause-none c = none_cut c.args.bytes.now c.in_ok-len.len c.in_ok-len.rest.now c.in_ok-len.ensures.found.0 c.in_ok-len.ensures.found.1 (omega arith)
