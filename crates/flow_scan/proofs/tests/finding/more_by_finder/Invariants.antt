-- The finder stays one by the plan's list.
use Rattle.std.proofs.Common.{◌≡◌}
use Rattle.flow_scan.proofs.tests.finding.more_by_finder.Given as goal

abbrev pub invariant-ends : goal.invariant-ends
invariant-ends l = l.finder ≡ l.compiled.literals
