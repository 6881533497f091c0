-- The step that ends the check gives the check's answer.
use Rattle.std.proofs.Common.{Result, Ok}
use Rattle.lit_base.specs.Profiles.{buckets}
use Rattle.lit_cert.specs.declared.reason.Reason.{Reason}
use Rattle.lit_cert.proofs.Failures.{failure_answer, yes-from_answer, no-from_answer}
use Rattle.lit_cert.proofs.checking.check.Goals as goal

pub returns-in_err-check_priced-clause-yes : goal.returns-in_err-check_priced-clause-yes
returns-in_err-check_priced-clause-yes c =
    let l = c.args.list.now in
    let certificate = c.args.certificate.now in
    let most = buckets certificate.profile in
    let answer = failure_answer c.from_residual.result most l certificate c.in_err-check_priced.field-0.0 c.from_residual.ensures.1 c.in_err-check_priced.ensures in
    yes-from_answer c.from_residual.result most l certificate answer

pub returns-in_err-check_priced-clause-no : goal.returns-in_err-check_priced-clause-no
returns-in_err-check_priced-clause-no c =
    let l = c.args.list.now in
    let certificate = c.args.certificate.now in
    let most = buckets certificate.profile in
    let answer = failure_answer c.from_residual.result most l certificate c.in_err-check_priced.field-0.0 c.from_residual.ensures.1 c.in_err-check_priced.ensures in
    no-from_answer c.from_residual.result most l certificate answer

pub returns-in_err-check_bounds-clause-yes : goal.returns-in_err-check_bounds-clause-yes
returns-in_err-check_bounds-clause-yes c =
    let l = c.args.list.now in
    let certificate = c.args.certificate.now in
    let most = buckets certificate.profile in
    let answer = failure_answer c.from_residual-in_err-check_bounds.result most l certificate c.in_err-check_bounds.field-0.0 c.from_residual-in_err-check_bounds.ensures.1 c.in_err-check_bounds.ensures in
    yes-from_answer c.from_residual-in_err-check_bounds.result most l certificate answer

pub returns-in_err-check_bounds-clause-no : goal.returns-in_err-check_bounds-clause-no
returns-in_err-check_bounds-clause-no c =
    let l = c.args.list.now in
    let certificate = c.args.certificate.now in
    let most = buckets certificate.profile in
    let answer = failure_answer c.from_residual-in_err-check_bounds.result most l certificate c.in_err-check_bounds.field-0.0 c.from_residual-in_err-check_bounds.ensures.1 c.in_err-check_bounds.ensures in
    no-from_answer c.from_residual-in_err-check_bounds.result most l certificate answer

pub returns-clause-no : goal.returns-clause-no
returns-clause-no c =
    let yes : Result (Unit {0}) Reason = Ok tt in
    no-from_answer yes (buckets c.args.certificate.now.profile) c.args.list.now c.args.certificate.now c.in_ok-check_bounds.ensures
