use Rattle.std.proofs.Common.{◌≡◌, ◌++◌, refl, sym, ap, ◌∙◌, subst}
use Rattle.lit_base.specs.Literals.{Literals}
use Rattle.lit_cert.specs.Certificates.{CertificateParts}
use Rattle.lit_cert.specs.Certified.{IsCertified, IsFirstFailure}
use Rattle.lit_cert.specs.declared.reason.Reason.{Reason}
use Rattle.std.proofs.lemmas.Result.{err_from_is_err_and}
use Rattle.lit_plan.specs.Plans.{IsRefusalOf, Plan}
use Rattle.lit_plan.specs.declared.fault.Fault.{Fault}
use Rattle.lit_plan.specs.declared.fault.Fault.TheVariants.{NotCertified}
use Rattle.plan_file.specs.Spelling.{IsPlan, plan_text}
use Rattle.plan_file.proofs.EntryParts.{failure_bad}
use Rattle.plan_file.proofs.FieldLemmas.{slice_bytes}
use Rattle.plan_file.proofs.StreamLemmas.{wrong_entry}
use Rattle.plan_file.proofs.PlanLemmas.{plan_read}
use Rattle.plan_file.proofs.decoding.first_plan.Goals as goal

-- the plan of a list
abbrev plan_of : CertificateParts → Literals → Plan
plan_of certificate list = record { literals = list; certificate = certificate }

pub returns-in-Ok-clause-found : goal.returns-in-Ok-clause-found
returns-in-Ok-clause-found c =
    let certificate = c.in_ok-entry.entry.certificate in
    let plan : Plan = plan_of certificate c.in_ok-entry.entry.list in
    let read = plan_read c.args.version c.args.bytes.now (plan, c.in_ok-entry.rest.now) (slice_bytes c.args.bytes.now c.type_inv.bytes) c.in_ok-entry.ensures in
    subst (λ (p : Plan). IsPlan c.args.version p × (c.args.bytes.now ≡ plan_text p ++ c.in_ok-entry.rest.now)) (sym (c.in-Ok.ensures.ok ∙ ap (plan_of certificate) c.in_ok-index.ensures))
    (record { fields = read.fields; certified = subst (λ (l : Literals). IsCertified l certificate) c.in_ok-index.ensures (c.in-Ok.ensures.certified.0 refl) }, read.took)

-- a field of the entry is wrong
pub returns-in_err-entry-clause-wrong : goal.returns-in_err-entry-clause-wrong
returns-in_err-entry-clause-wrong c =
    let p = err_from_is_err_and c.from_residual.result c.from_residual.ensures.1 in
    rw (p.1, p.2) (wrong_entry c.args.version c.args.bytes.now c.in_err-entry.field-0.0 (slice_bytes c.args.bytes.now c.type_inv.bytes) c.in_err-entry.ensures)

-- the reason of a refusal is the first condition that fails
refused_for : (list old_list : Literals) (certificate old_certificate : CertificateParts) (fault : Fault) (reason : Reason) → fault ≡ NotCertified reason → IsRefusalOf list certificate fault old_list old_certificate → IsFirstFailure list certificate reason
refused_for list old_list certificate old_certificate fault reason is refusal = subst (IsFirstFailure list certificate) (same (sym refusal.fault_is ∙ is)) refusal.first
  where
    same : NotCertified refusal.reason ≡ NotCertified reason → refusal.reason ≡ reason
    same e = (cc)

-- the certificate of the entry does not hold
pub returns-in-Err-NotCertified-default-default-clause-wrong : goal.returns-in-Err-NotCertified-default-default-clause-wrong
returns-in-Err-NotCertified-default-default-clause-wrong c =
    let here = c.in-Err-NotCertified-default-default in
    let list = c.in_ok-entry.entry.list in
    let certificate = c.in_ok-entry.entry.certificate in
    let first : IsFirstFailure c.in_ok-index.index.value certificate here.reason = refused_for c.in_ok-index.index.value _ certificate _ here.field-0-0 here.reason here.field-0-0-is here.ensures.refused in
    rw (c.stop_at.ensures, here.field-0-0-is)
    (failure_bad c.args.version c.args.bytes.now c.in_ok-entry.rest.now (plan_of certificate list) here.reason (slice_bytes c.args.bytes.now c.type_inv.bytes) c.in_ok-entry.ensures
    (subst (λ (l : Literals). IsFirstFailure l certificate here.reason) c.in_ok-index.ensures first))
