-- The finder stays one by the plan.
use Rattle.std.proofs.Common.{◌≡◌}
use Rattle.flow_scan.proofs.tests.streamed.feed_the_same.Given as goal

abbrev pub invariant-sizes : goal.invariant-sizes
invariant-sizes l = l.finder ≡ l.compiled.literals
