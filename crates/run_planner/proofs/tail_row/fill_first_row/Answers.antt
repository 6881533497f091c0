-- Each place holds one run to the end.
use Rattle.std.proofs.Common.{arith}
use Rattle.run_planner.proofs.Tails.{first_row}
use Rattle.run_planner.proofs.tail_row.fill_first_row.Goals as goal

pub returns-clause-filled : goal.returns-clause-filled
returns-clause-filled g c = first_row (g.M.Meter.prices c.args.meter.now) c.args.n c.loop-place.rows (λ p h. c.loop-place.invariant.filled p (omega arith))
