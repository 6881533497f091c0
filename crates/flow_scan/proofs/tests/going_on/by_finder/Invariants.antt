-- The search and the finder stay those by the plan.
use Rattle.std.proofs.Common.{◌≡◌}
use Rattle.flow_scan.proofs.tests.going_on.by_finder.Given as goal

abbrev pub invariant-ends : goal.invariant-ends
invariant-ends l = record {
  plan : l.search.plan ≡ l.compiled;
  finder : l.finder ≡ l.compiled.literals;
}
