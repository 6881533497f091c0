-- The numbers of a certificate are machine numbers, so they fit their fields.
use Rattle.std.proofs.Common.{◌≡◌, ◌<◌, ◌^◌, ap, ◌∙◌, subst, All, ℕ, List}
use Rattle.lit_cert.specs.Certificates.{CertificateParts}
use Rattle.lit_cert.proofs.writing.text_law.Goals as goal

pub returns : goal.returns
returns c =
    let ends = c.as_slice-ends.ensures.value ∙ ap (λ (p : CertificateParts). p.ends) c.certificate.view_is in
    let potentials = c.deref.ensures.value ∙ ap (λ (p : CertificateParts). p.potentials) c.certificate.view_is in
    record {
      rows = c.requires.rows;
      literals = c.requires.literals;
      ends = record { some = c.requires.ends; few = c.requires.few_ends; small = subst (All (λ (e : ℕ). e < 2 ^ 16)) ends c.numbers_law.ensures.ends };
      small_cost = subst (λ (n : ℕ). n < 2 ^ 64) (ap (λ (p : CertificateParts). p.cost) c.certificate.view_is) c.numbers_law.ensures.cost;
      small_potentials = subst (All (λ (h : ℕ). h < 2 ^ 64)) potentials c.numbers_law.ensures.potentials;
    }
