use Rattle.plan_file.proofs.StreamLemmas.{SoFar}
use Rattle.plan_file.proofs.decoding.plans_of.Given as goal

abbrev pub invariant-loop : goal.invariant-loop
invariant-loop l = SoFar l.version l.counter l.bytes l.plans.items l.rest
