-- One row more.
use Rattle.std.proofs.Common.{◌≡◌, ◌+◌, length, subst, arith}
use Rattle.lit_cert.specs.Certified.{StepsHold, StepRowsHold}
use Rattle.lit_cert.proofs.Failures.{rows_more}
use Rattle.lit_cert.proofs.checking.first_step_row.Goals as goal

pub loop-r-preserved : goal.loop-r-preserved
loop-r-preserved c =
    let l = c.args.list.now in
    rows_more (λ s. StepsHold l c.args.potentials.now s (length l.texts)) 2 c.loop-r.r c.loop-r.invariant c.in_default.ensures

pub returns-in_default : goal.returns-in_default
returns-in_default c =
    let l = c.args.list.now in
    let last : c.loop-r.r ≡ c.args.most = omega arith in
    subst (λ r. StepRowsHold l c.args.potentials.now (r + 1)) last (rows_more (λ s. StepsHold l c.args.potentials.now s (length l.texts)) 2 c.loop-r.r c.loop-r.invariant c.in_default.ensures)
