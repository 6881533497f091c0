-- What a contract sees of a certificate.
use Rattle.std.specs.Prelude.{ℕ, List}
use Rattle.lit_base.specs.declared.profile.Profile.{Profile}

-- the ends of the runs, their price, and the potentials row by row
pub record CertificateNumbers : Type 0 where
  pub ends : List ℕ
  pub cost : ℕ
  pub potentials : List ℕ

-- how many runs there may be, the ends of the runs, their price, and the potentials row by row
pub record CertificateParts : Type 0 where
  pub profile : Profile
  pub ends : List ℕ
  pub cost : ℕ
  pub potentials : List ℕ

-- the numbers of a certificate
abbrev pub numbers_of : CertificateParts → CertificateNumbers
numbers_of c = record { ends = c.ends; cost = c.cost; potentials = c.potentials }
