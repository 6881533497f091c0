-- Plan files: the one spelling of a list of plans in each version. Numbers stand with their greatest byte first.
use Rattle.std.specs.Prelude.{⊤, ℕ, ◌*◌, ◌^◌, ◌<◌, ◌≤◌, ◌≡◌, List, ◌∷◌, ◌++◌, length, All}
use Rattle.std.specs.List.{flat_map}
use Rattle.std.specs.Int.{Width, w16, w32, w64, to_be_bytes}
use Rattle.lit_base.specs.Flags.{flags_of}
use Rattle.lit_base.specs.declared.limits.TheConstants.{MAX_LITERAL_LEN}
use Rattle.lit_base.specs.declared.profile.Profile.{Profile}
use Rattle.lit_base.specs.declared.profile.Profile.TheVariants.{Eight}
use Rattle.lit_base.specs.Literals.{Literals, IsNormal}
use Rattle.lit_base.specs.Profiles.{buckets}
use Rattle.lit_cert.specs.Certificates.{CertificateParts}
use Rattle.lit_cert.specs.Certified.{IsCertified}
use Rattle.lit_plan.specs.Plans.{Plan}
use Rattle.plan_file.specs.declared.version.Version.{Version}
use Rattle.plan_file.specs.declared.version.Version.TheVariants.{One, Two}

-- ---- what the versions differ in

-- the number of a version
abbrev pub version_number : Version → ℕ
version_number One = 1
version_number Two = 2

-- the most literals of a plan
abbrev pub limit_of : Version → ℕ
limit_of One = 1024
limit_of Two = 4096

-- version 1 has plans of eight buckets alone
abbrev pub CanExpress : Version → Profile → Type 0
CanExpress One profile = profile ≡ Eight
CanExpress Two profile = ⊤

-- ---- the fields of an entry

-- numbers of a width, one after the other
abbrev pub numbers_text : Width → List ℕ → List ℕ
numbers_text w ns = flat_map (to_be_bytes w) ns

-- a literal: its length in two bytes, and its bytes
abbrev pub literal_text : List ℕ → List ℕ
literal_text literal = to_be_bytes w16 (length literal) ++ literal

-- the literals of a plan: their fold and its profile, their number, and each of them
abbrev pub literals_text : Profile → Literals → List ℕ
literals_text profile l =
    flags_of l.folding profile ∷ (to_be_bytes w16 (length l.texts) ++ flat_map literal_text l.texts)

-- a certificate: its number of runs, their ends, the cost, and the potentials
abbrev pub certificate_text : CertificateParts → List ℕ
certificate_text c = length c.ends ∷ (numbers_text w16 c.ends ++ (to_be_bytes w64 c.cost ++ numbers_text w64 c.potentials))

-- an entry: a plan, spelled alike in both versions
unfoldable pub plan_text : Plan → List ℕ
plan_text p = literals_text p.certificate.profile p.literals ++ certificate_text p.certificate

-- ---- files

-- the head of a file: `LPLF`, the version, and the number of plans
unfoldable pub head_text : Version → ℕ → List ℕ
head_text version count = to_be_bytes w32 0x4C504C46 ++ (to_be_bytes w16 (version_number version) ++ to_be_bytes w16 count)

-- a file of a version: its head and the plans, and nothing after them
abbrev pub spelling : Version → List Plan → List ℕ
spelling version plans = head_text version (length plans) ++ flat_map plan_text plans

-- each field of an entry is within its bounds: literals in normal form, no more than the version allows; a profile of
-- the version; at least one end, no more ends than buckets; numbers that fit
pub record HasFields (version : Version) (p : Plan) : Type 0 where
  pub normal : IsNormal p.literals
  pub some : 1 ≤ length p.literals.texts
  pub few : length p.literals.texts ≤ limit_of version
  pub profile : CanExpress version p.certificate.profile
  pub some_ends : 1 ≤ length p.certificate.ends
  pub few_ends : length p.certificate.ends ≤ buckets p.certificate.profile
  pub small_ends : All (λ e. e < 2 ^ 16) p.certificate.ends
  pub small_cost : p.certificate.cost < 2 ^ 64
  pub potentials : length p.certificate.potentials ≡ buckets p.certificate.profile * length p.literals.texts
  pub small_potentials : All (λ h. h < 2 ^ 64) p.certificate.potentials

-- a plan of a file of the version: its certificate holds
pub record IsPlan (version : Version) (p : Plan) : Type 0 where
  pub fields : HasFields version p
  pub certified : IsCertified p.literals p.certificate

-- at most 64 such plans
pub record ArePlans (version : Version) (plans : List Plan) : Type 0 where
  pub few : length plans ≤ 64
  pub each : All (IsPlan version) plans

-- the text begins with the head of a file that has plans
pub record AnnouncesPlans (text : List ℕ) : Type 0 where
  pub version : Version
  pub count : ℕ
  pub some : 0 < count
  pub few : count ≤ 64
  pub rest : List ℕ
  pub text_is : text ≡ head_text version count ++ rest

-- the text is a file of the version, and these are its plans
pub record IsFileOf (version : Version) (text : List ℕ) (plans : List Plan) : Type 0 where
  pub are : ArePlans version plans
  pub spelled : text ≡ spelling version plans

-- the text is a file of one of the versions, and these are its plans
pub record IsFile (text : List ℕ) (plans : List Plan) : Type 0 where
  pub version : Version
  pub file : IsFileOf version text plans

-- with some bytes after it the text is a file
pub record BeginsFile (text : List ℕ) : Type 0 where
  pub more : List ℕ
  pub plans : List Plan
  pub file : IsFile (text ++ more) plans

-- ---- what bytes begin

-- each field of a draft is within its bounds. Whether its letters are folded and its literals in order, how many bytes
-- these have, and whether the certificate holds, is not asked for
pub record IsDraft (version : Version) (p : Plan) : Type 0 where
  pub texts : All (λ t. (1 ≤ length t) × (length t ≤ MAX_LITERAL_LEN)) p.literals.texts
  pub some : 1 ≤ length p.literals.texts
  pub few : length p.literals.texts ≤ limit_of version
  pub profile : CanExpress version p.certificate.profile
  pub some_ends : 1 ≤ length p.certificate.ends
  pub few_ends : length p.certificate.ends ≤ buckets p.certificate.profile
  pub small_ends : All (λ e. e < 2 ^ 16) p.certificate.ends
  pub small_cost : p.certificate.cost < 2 ^ 64
  pub potentials : length p.certificate.potentials ≡ buckets p.certificate.profile * length p.literals.texts
  pub small_potentials : All (λ h. h < 2 ^ 64) p.certificate.potentials

-- with some bytes after it the text is a file of drafts
pub record BeginsDraft (text : List ℕ) : Type 0 where
  pub version : Version
  pub plans : List Plan
  pub few : length plans ≤ 64
  pub each : All (IsDraft version) plans
  pub more : List ℕ
  pub spelled : text ++ more ≡ spelling version plans
