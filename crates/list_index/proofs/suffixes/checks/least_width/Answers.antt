-- The first literal is the shortest.
use Rattle.std.proofs.Common.{arith}
use Rattle.list_index.proofs.ChainLemmas.{at_least}
use Rattle.list_index.proofs.suffixes.checks.least_width.Goals as goal

pub returns-clause-shared : goal.returns-clause-shared
returns-clause-shared c place inside = omega (arith, at_least c.args.list.now c.shortest.result c.shortest.ensures.least place inside, c.key_width.ensures)
