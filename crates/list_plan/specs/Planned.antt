-- The certificate that a list is planned with.
use Rattle.std.specs.Prelude.{length}
use Rattle.lit_base.specs.Costs.{run_cost}
use Rattle.lit_base.specs.Literals.{Literals, lengths}
use Rattle.lit_base.specs.declared.profile.Profile.{Profile}
use Rattle.lit_cert.specs.Certificates.{CertificateParts}
use Rattle.run_planner.specs.Plans.{IsPlan}

-- it is the plan of the list's literals, in order, by the costs of their runs, of this profile: there is one alone
abbrev pub IsPlanned : Literals → Profile → CertificateParts → Type 0
IsPlanned list profile c = IsPlan (run_cost (lengths list)) profile (length list.texts) c
