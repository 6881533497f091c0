use Rattle.lit_cert.specs.Certified.{RunsHold}
use Rattle.lit_cert.proofs.checking.first_run.Given as goal

abbrev pub invariant-loop-q : goal.invariant-loop-q
invariant-loop-q l = RunsHold l.list l.potentials l.r l.p l.q
