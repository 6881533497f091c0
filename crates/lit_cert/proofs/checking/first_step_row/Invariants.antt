use Rattle.lit_cert.specs.Certified.{StepRowsHold}
use Rattle.lit_cert.proofs.checking.first_step_row.Given as goal

abbrev pub invariant-loop-r : goal.invariant-loop-r
invariant-loop-r l = StepRowsHold l.list l.potentials l.r
