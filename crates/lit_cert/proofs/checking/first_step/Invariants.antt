use Rattle.lit_cert.specs.Certified.{StepsHold}
use Rattle.lit_cert.proofs.checking.first_step.Given as goal

abbrev pub invariant-loop-p : goal.invariant-loop-p
invariant-loop-p l = StepsHold l.list l.potentials l.r l.p
