use Rattle.lit_cert.specs.Certified.{EndsHold}
use Rattle.lit_cert.proofs.checking.first_above_end.Given as goal

abbrev pub invariant-loop-p : goal.invariant-loop-p
invariant-loop-p l = EndsHold l.list l.potentials l.r l.p
