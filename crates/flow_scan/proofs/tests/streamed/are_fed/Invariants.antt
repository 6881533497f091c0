-- The scan stays one by the finder's plan.
use Rattle.std.proofs.Common.{◌≡◌}
use Rattle.flow_scan.proofs.tests.streamed.are_fed.Given as goal

abbrev pub invariant-pieces : goal.invariant-pieces
invariant-pieces l = record {
  plan : l.finder ≡ l.scanner.plan.literals;
  same : l.finder ≡ l.fn.finder;
}
