-- Where no end row and no step fails, the certificate holds.
use Rattle.std.proofs.Common.{◌≡◌, ◌+◌, ap, ◌∙◌, subst}
use Rattle.lit_base.specs.Profiles.{buckets}
use Rattle.lit_cert.specs.Certified.{EndRowsHold, StepRowsHold}
use Rattle.lit_cert.proofs.Failures.{bounds-from_rows}
use Rattle.lit_cert.proofs.checking.check_bounds.Goals as goal

pub returns : goal.returns
returns c =
    let l = c.args.list.now in
    let same : c.as_slice-potentials.result.now ≡ c.args.certificate.now.potentials =
    c.as_slice-potentials.ensures.value ∙ ap (λ v. v.potentials) c.certificate.view_is in
    let most : c.buckets-most.result ≡ buckets c.args.certificate.now.profile = c.buckets-most.ensures.value ∙ ap (λ v. buckets v.profile) c.certificate.view_is in
    let ends = subst (λ m. EndRowsHold l c.args.certificate.now.potentials (m + 1)) most (subst (λ hs. EndRowsHold l hs (c.buckets-most.result + 1)) same c.in_default.ensures) in
    let steps = subst (λ m. StepRowsHold l c.args.certificate.now.potentials (m + 1)) most (subst (λ hs. StepRowsHold l hs (c.buckets-most.result + 1)) same c.in_default-first_step_row.ensures) in
    record { priced = c.requires; bounds = bounds-from_rows (buckets c.args.certificate.now.profile) l c.args.certificate.now ends steps }
