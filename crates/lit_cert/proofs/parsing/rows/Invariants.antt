use Rattle.lit_cert.specs.Reading.{StartsWithRows}
use Rattle.lit_cert.proofs.parsing.rows.Given as goal

abbrev pub invariant-loop-r : goal.invariant-loop-r
invariant-loop-r l = StartsWithRows l.r l.n l.text l.potentials.items l.left
