-- The finder stays one by the plan's list.
use Rattle.std.proofs.Common.{◌≡◌}
use Rattle.flow_scan.proofs.tests.finding.tuned_in.Given as goal

abbrev pub invariant-pieces : goal.invariant-pieces
invariant-pieces l = l.finder ≡ l.compiled.literals
