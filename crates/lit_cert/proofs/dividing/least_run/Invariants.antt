use Rattle.lit_cert.specs.Steps.{IsLeastRun}
use Rattle.lit_cert.proofs.dividing.least_run.Given as goal

abbrev pub invariant-loop-q : goal.invariant-loop-q
invariant-loop-q l = IsLeastRun l.list l.before l.p l.first l.q l.best l.least
