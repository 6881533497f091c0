-- The finder stays one by the plan's list.
use Rattle.std.proofs.Common.{◌≡◌}
use Rattle.flow_scan.proofs.tests.finding.find_the_same.Given as goal

abbrev pub invariant-times : goal.invariant-times
invariant-times l = l.finder ≡ l.compiled.literals
