use Rattle.lit_cert.specs.Certified.{EndRowsHold}
use Rattle.lit_cert.proofs.checking.first_end_row.Given as goal

abbrev pub invariant-loop-r : goal.invariant-loop-r
invariant-loop-r l = EndRowsHold l.list l.potentials l.r
