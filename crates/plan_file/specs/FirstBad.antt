-- The first bad field of a part: the fields before it begin a part, and with the field that stands there they begin
-- none. A part is a head, the start of an entry, a literal or a certificate.
use Rattle.std.specs.Prelude.{ℕ, ◌*◌, ◌^◌, ◌<◌, ◌≤◌, ◌≡◌, ◌≢◌, List, [], ◌∷◌, ◌++◌, length, map, All, nat_lt, if◌then◌else◌}
use Rattle.std.specs.List.{flat_map}
use Rattle.std.specs.Int.{Width, w16, w32, w64, to_be_bytes}
use Rattle.lit_base.specs.Flags.{flags_of}
use Rattle.lit_base.specs.declared.fold.Fold.{Fold}
use Rattle.lit_base.specs.declared.profile.Profile.{Profile}
use Rattle.lit_base.specs.declared.limits.TheConstants.{MAX_LITERAL_LEN}
use Rattle.lit_base.specs.Literals.{Literals, IsNormal}
use Rattle.lit_base.specs.Profiles.{buckets}
use Rattle.lit_cert.specs.Certificates.{CertificateParts}
use Rattle.plan_file.specs.declared.fault.Cause.{Cause}
use Rattle.plan_file.specs.declared.fault.Cause.TheVariants.{Short, Magic, Version as wrong_version, Count, Flags, Literal, Runs}
use Rattle.plan_file.specs.declared.fault.Wrong.{Wrong}
use Rattle.plan_file.specs.declared.version.Version.{Version}
use Rattle.plan_file.specs.Reading.{wrong_at}
use Rattle.plan_file.specs.Spelling.{CanExpress, limit_of, version_number}

-- a field: its bytes, and the cause where others stand in its place
pub record Field : Type 0 where
  pub bytes : List ℕ
  pub cause : Cause

-- the field of a byte
abbrev pub byte_field : Cause → ℕ → Field
byte_field cause byte = record { bytes = byte ∷ []; cause = cause }

-- the field of a number
abbrev pub number_field : Width → Cause → ℕ → Field
number_field w cause number = record { bytes = to_be_bytes w number; cause = cause }

-- fields, one after the other
abbrev pub text_of : List Field → List ℕ
text_of fields = flat_map (λ f. f.bytes) fields

-- The first fields of some part stand at the start, and no part has after them a next field that stands there too. The
-- fault is at this next field: it is not whole, or else it has the cause of the field.
pub record IsFirstBad {Part : Type 0} (fits : Part → Type 0) (fields_of : Part → List Field) (bytes : List ℕ) (w : Wrong) : Type 0 where
  pub part : Part
  pub fitting : fits part
  pub before : List Field
  pub field : Field
  pub after : List Field
  pub fields_are : fields_of part ≡ before ++ field ∷ after
  pub rest : List ℕ
  pub bytes_are : bytes ≡ text_of before ++ rest
  pub none : (other : Part) (next : Field) (later : List Field) (more : List ℕ) → fits other → fields_of other ≡ before ++ next ∷ later → rest ≢ next.bytes ++ more
  pub wrong_is : w ≡ wrong_at (if nat_lt (length rest) (length field.bytes) then Short else field.cause) rest

-- ---- the parts

-- the head: the version, and the number of plans
abbrev pub head_fields : Version × ℕ → List Field
head_fields h = number_field w32 Magic 0x4C504C46 ∷ number_field w16 wrong_version (version_number h.0) ∷ number_field w16 Count h.1 ∷ []

-- at most 64 plans
abbrev pub FitsHead : Version × ℕ → Type 0
FitsHead h = h.1 ≤ 64

-- the start of an entry: its flags, and the number of its literals
pub record Start : Type 0 where
  pub fold : Fold
  pub profile : Profile
  pub count : ℕ

-- its fields
abbrev pub start_fields : Start → List Field
start_fields s = byte_field Flags (flags_of s.fold s.profile) ∷ number_field w16 Count s.count ∷ []

-- a start that an entry of the version may have
pub record FitsStart (version : Version) (s : Start) : Type 0 where
  pub profile : CanExpress version s.profile
  pub some : 1 ≤ s.count
  pub few : s.count ≤ limit_of version

-- a literal: its length, and its bytes
abbrev pub literal_fields : List ℕ → List Field
literal_fields text = number_field w16 Literal (length text) ∷ record { bytes = text; cause = Short } ∷ []

-- a literal for which there is room
pub record FitsLiteral (room : ℕ) (text : List ℕ) : Type 0 where
  pub some : 1 ≤ length text
  pub short : length text ≤ MAX_LITERAL_LEN
  pub fits : length text ≤ room

-- literals that an entry of the version may have
pub record FitsList (version : Version) (profile : Profile) (l : Literals) : Type 0 where
  pub normal : IsNormal l
  pub some : 1 ≤ length l.texts
  pub few : length l.texts ≤ limit_of version
  pub can : CanExpress version profile

-- a certificate: the number of its runs, their ends, the cost, and the potentials
abbrev pub certificate_fields : CertificateParts → List Field
certificate_fields c =
    byte_field Runs (length c.ends) ∷ (map (number_field w16 Short) c.ends ++ number_field w64 Short c.cost ∷ map (number_field w64 Short) c.potentials)

-- a certificate of a profile for n literals, whether or not it holds
pub record FitsCertificate (profile : Profile) (n : ℕ) (c : CertificateParts) : Type 0 where
  pub profile_is : c.profile ≡ profile
  pub some_ends : 1 ≤ length c.ends
  pub few_ends : length c.ends ≤ buckets profile
  pub small_ends : All (λ e. e < 2 ^ 16) c.ends
  pub small_cost : c.cost < 2 ^ 64
  pub potentials : length c.potentials ≡ buckets profile * n
  pub small_potentials : All (λ h. h < 2 ^ 64) c.potentials
