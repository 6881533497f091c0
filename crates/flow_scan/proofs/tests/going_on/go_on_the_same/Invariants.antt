-- The finder stays one by the plan's list.
use Rattle.std.proofs.Common.{◌≡◌}
use Rattle.flow_scan.proofs.tests.going_on.go_on_the_same.Given as goal

abbrev pub invariant-skips : goal.invariant-skips
invariant-skips l = l.finder ≡ l.compiled.literals
