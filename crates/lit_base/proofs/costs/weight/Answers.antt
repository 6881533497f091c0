-- The table read in the code is the one of the definition, and its weights never rise.
use Rattle.std.proofs.Common.{arith}
use Rattle.lit_base.proofs.Weights.{weight-falls, weight-short, weight-long}
use Rattle.lit_base.proofs.costs.weight.Goals as goal

pub returns-then-shortest-le7-clause-value : goal.returns-then-shortest-le7-clause-value
returns-then-shortest-le7-clause-value c = weight-short c.args.shortest c.requires (omega arith)

pub returns-then-shortest-le7-clause-never_rises : goal.returns-then-shortest-le7-clause-never_rises
returns-then-shortest-le7-clause-never_rises c longer h =
    omega (arith, weight-short c.args.shortest c.requires (omega arith), weight-falls c.args.shortest longer h)

pub returns-else-shortest-le7-clause-value : goal.returns-else-shortest-le7-clause-value
returns-else-shortest-le7-clause-value c = weight-long c.args.shortest (omega arith)

pub returns-else-shortest-le7-clause-never_rises : goal.returns-else-shortest-le7-clause-never_rises
returns-else-shortest-le7-clause-never_rises c longer h =
    omega (arith, weight-long c.args.shortest (omega arith), weight-falls c.args.shortest longer h)
