use Rattle.std.proofs.lemmas.Result.{IfOk-weaker, IfErr-weaker, err_from_is_err_and}
use Rattle.plan_file.specs.FirstFaults.{AreEntries, IsWrong, IsWrongAfter}
use Rattle.plan_file.specs.Faults.{IfWrong}
use Rattle.plan_file.specs.Spelling.{IsFile}
use Rattle.plan_file.proofs.FieldLemmas.{slice_bytes}
use Rattle.plan_file.proofs.StreamLemmas.{announced, whole, wrong_after, wrong_head}
use Rattle.plan_file.proofs.decoding.all_plans.Goals as goal

pub returns-clause-found : goal.returns-clause-found
returns-clause-found c =
    IfOk-weaker c.plans_of.result (λ plans. AreEntries c.in_ok-version.version c.in_ok-version.count c.in_ok-version.rest.now plans.items) (λ plans. IsFile c.args.bytes.now plans.items)
    (λ plans are. whole c.in_ok-version.version c.in_ok-version.count c.args.bytes.now c.in_ok-version.rest.now plans.items (slice_bytes c.args.bytes.now c.type_inv.bytes) c.in_ok-version.ensures.head are) c.plans_of.ensures.found

pub returns-clause-wrong : goal.returns-clause-wrong
returns-clause-wrong c =
    IfErr-weaker c.plans_of.result (IfWrong (IsWrongAfter c.in_ok-version.version c.in_ok-version.count c.in_ok-version.rest.now)) (IfWrong (IsWrong c.args.bytes.now))
    (λ e wrong. wrong_after c.in_ok-version.version c.in_ok-version.count c.args.bytes.now c.in_ok-version.rest.now e (slice_bytes c.args.bytes.now c.type_inv.bytes) c.in_ok-version.ensures.head wrong) c.plans_of.ensures.wrong

pub returns-clause-starved : goal.returns-clause-starved
returns-clause-starved c = λ is.
    announced c.in_ok-version.version c.in_ok-version.count c.args.bytes.now c.in_ok-version.rest.now (slice_bytes c.args.bytes.now c.type_inv.bytes) c.in_ok-version.ensures.head (c.plans_of.ensures.starved is)

pub returns-in_err-version-clause-wrong : goal.returns-in_err-version-clause-wrong
returns-in_err-version-clause-wrong c =
    let p = err_from_is_err_and c.from_residual.result c.from_residual.ensures.1 in
    rw (p.1, p.2) (wrong_head c.args.bytes.now c.in_err-version.field-0.0 (slice_bytes c.args.bytes.now c.type_inv.bytes) c.in_err-version.ensures.head)
