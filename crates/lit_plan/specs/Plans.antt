-- What a contract sees of a `Compiled`.
use Rattle.std.specs.Prelude.{◌≡◌}
use Rattle.lit_base.specs.Literals.{Literals}
use Rattle.lit_cert.specs.Certificates.{CertificateParts}
use Rattle.lit_cert.specs.Certified.{IsCertified, IsFirstFailure}
use Rattle.lit_cert.specs.declared.reason.Reason.{Reason}
use Rattle.nib_mask.specs.Candidates.{CoversBy}
use Rattle.lane_filter.specs.Prefilters.{IsPrefilterOf, Passes}
use Rattle.lane_filter.specs.declared.prefilter.Prefilter.{Prefilter}
use Rattle.lit_plan.specs.declared.fault.Fault.{Fault}
use Rattle.lit_plan.specs.declared.fault.Fault.TheVariants.{NotCertified}

-- literals, and a certificate that shows how they are grouped
pub record Plan : Type 0 where
  pub literals : Literals
  pub certificate : CertificateParts

-- the invariant of its fields: the certificate holds, the prefilter belongs to its runs, and no occurrence passes it
-- unseen
pub record IsCompiled (list : Literals) (certificate : CertificateParts) (prefilter : Prefilter) : Type 0 where
  pub certified : IsCertified list certificate
  pub prefiltered : IsPrefilterOf list certificate.ends prefilter
  pub covers : CoversBy list (Passes prefilter)

-- the refusal of a list and a certificate: the first condition that fails, and both unchanged
pub record IsRefusalOf (list : Literals) (certificate : CertificateParts) (fault : Fault) (old_list : Literals) (old_certificate : CertificateParts) : Type 0 where
  pub reason : Reason
  pub fault_is : fault ≡ NotCertified reason
  pub first : IsFirstFailure list certificate reason
  pub same_list : old_list ≡ list
  pub same_certificate : old_certificate ≡ certificate
