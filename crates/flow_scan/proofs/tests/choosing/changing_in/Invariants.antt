-- The finder stays one by the plan's list.
use Rattle.std.proofs.Common.{◌≡◌}
use Rattle.flow_scan.proofs.tests.choosing.changing_in.Given as goal

abbrev pub invariant-changes : goal.invariant-changes
invariant-changes l = l.finder ≡ l.compiled.literals
