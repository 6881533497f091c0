-- The plan of some places by the prices of a run.
use Rattle.std.specs.Prelude.{◌≡◌, ℕ, ◌*◌, length}
use Rattle.lit_base.specs.Cuts.{cut_price}
use Rattle.lit_base.specs.Profiles.{buckets}
use Rattle.lit_base.specs.declared.profile.Profile.{Profile}
use Rattle.lit_cert.specs.Certificates.{CertificateParts}
use Rattle.run_planner.specs.FirstCut.{IsFirstCut}
use Rattle.run_planner.specs.TailCosts.{AreTailCosts}

-- By the prices c of a run, the certificate of n places is a plan of the profile. It has the first of the cheapest
-- cuts, into no more runs than there are buckets, its price, and the tail costs.
pub record IsPlan (c : ℕ → ℕ → ℕ) (profile : Profile) (n : ℕ) (plan : CertificateParts) : Type 0 where
  pub for_profile : plan.profile ≡ profile
  pub first : IsFirstCut c (buckets profile) n plan.ends
  pub cost : plan.cost ≡ cut_price c 0 plan.ends
  pub potentials : AreTailCosts c n (buckets profile) plan.potentials
  pub len : length plan.potentials ≡ buckets profile * n

-- it is the only plan
abbrev pub IsOnlyPlan : (ℕ → ℕ → ℕ) → Profile → ℕ → CertificateParts → Type 0
IsOnlyPlan c profile n plan = (other : CertificateParts) → IsPlan c profile n other → other ≡ plan
