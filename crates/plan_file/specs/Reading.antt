-- Inside the crate: what each function that reads a part of a plan file gives, field by field.
use Rattle.std.specs.Prelude.{ℕ, zero, suc, ◌*◌, ◌-◌, List, [], ◌∷◌, length, take, drop, Bool, ◌&&◌, ◌==◌, not, nat_le, nat_lt, if◌then◌else◌, Result, Ok, Err}
use Rattle.std.specs.Int.{Width, w16, w32, w64, byte_len, from_be_bytes}
use Rattle.std.specs.List.{position_or_len}
use Rattle.std.specs.Ordering.{is_lt}
use Rattle.lit_base.specs.Flags.{fold_of, profile_of}
use Rattle.lit_base.specs.declared.fold.Fold.{Fold}
use Rattle.lit_base.specs.declared.profile.Profile.{Profile}
use Rattle.lit_base.specs.declared.limits.TheConstants.{MAX_LITERAL_LEN, MAX_LIST_LEN}
use Rattle.lit_base.specs.Folding.{folded}
use Rattle.lit_base.specs.Literals.{Literals, literal_cmp}
use Rattle.lit_base.specs.Profiles.{buckets}
use Rattle.lit_cert.specs.Certificates.{CertificateParts}
use Rattle.lit_plan.specs.Plans.{Plan}
use Rattle.plan_file.specs.declared.fault.Cause.{Cause}
use Rattle.plan_file.specs.declared.fault.Cause.TheVariants.{Short, Magic, Version as wrong_version, Count, Flags, Literal, Order, Runs}
use Rattle.plan_file.specs.declared.fault.Wrong.{Wrong}
use Rattle.plan_file.specs.declared.version.Version.{Version}
use Rattle.plan_file.specs.declared.version.Version.TheVariants.{One, Two}
use Rattle.plan_file.specs.Spelling.{limit_of}

-- a step of reading, and the next step unless a field was wrong
infixl 10 ◌>>=◌
abbrev pub ◌>>=◌ : {A B : Type 0} → Result A Wrong → (A → Result B Wrong) → Result B Wrong
(Ok x) >>= f = f x
(Err e) >>= f = Err e

-- the cause, at the field that begins these bytes: its place is given by how many bytes stand from it on
abbrev pub wrong_at : Cause → List ℕ → Wrong
wrong_at cause bytes = record { left = length bytes; cause = cause }

-- ---- a field and the bytes after it

-- a byte
abbrev pub byte_at : List ℕ → Result (ℕ × List ℕ) Wrong
byte_at [] = Err (wrong_at Short [])
byte_at (b ∷ rest) = Ok (b, rest)

-- the number in the first bytes
abbrev pub number_at : Width → List ℕ → Result (ℕ × List ℕ) Wrong
number_at w bytes =
    if nat_lt (length bytes) (byte_len w) then Err (wrong_at Short bytes)
    else Ok (from_be_bytes w (take (byte_len w) bytes), drop (byte_len w) bytes)

-- the first n bytes
abbrev pub bytes_at : ℕ → List ℕ → Result (List ℕ × List ℕ) Wrong
bytes_at n bytes = if nat_lt (length bytes) n then Err (wrong_at Short bytes) else Ok (take n bytes, drop n bytes)

-- the number that was read of a field, if it passes the test
abbrev pub field : List ℕ → (ℕ → Bool) → Cause → Result (ℕ × List ℕ) Wrong → Result (ℕ × List ℕ) Wrong
field bytes passes cause read = do
  n ← read
  if passes n.0 then Ok n else Err (wrong_at cause bytes)

-- a count of numbers
unfoldable pub numbers_at : Width → ℕ → List ℕ → Result (List ℕ × List ℕ) Wrong
numbers_at w zero bytes = Ok ([], bytes)
numbers_at w (suc n) bytes = do
  first ← number_at w bytes
  others ← numbers_at w n first.1
  Ok (first.0 ∷ others.0, others.1)

-- the number of the first bytes that are folded
abbrev pub folded_len : Fold → List ℕ → ℕ
folded_len fold text = position_or_len (λ b. not (folded fold b == b)) text

-- a literal after another one, where there is room for `room` bytes
unfoldable pub literal_at : Fold → ℕ → List ℕ → List ℕ → Result (List ℕ × List ℕ) Wrong
literal_at fold room before bytes = do
  len ← field bytes (λ n. nat_le 1 n && nat_le n MAX_LITERAL_LEN && nat_le n room) Literal (number_at w16 bytes)
  text ← bytes_at len.0 len.1
  if nat_lt (folded_len fold text.0) (length text.0) then Err (wrong_at Literal (drop (folded_len fold text.0) len.1))
      else if is_lt (literal_cmp before text.0) then Ok text
      else Err (wrong_at Order bytes)

-- a count of literals
unfoldable pub literals_at : Fold → ℕ → ℕ → List ℕ → List ℕ → Result (List (List ℕ) × List ℕ) Wrong
literals_at fold zero room before bytes = Ok ([], bytes)
literals_at fold (suc n) room before bytes = do
  first ← literal_at fold room before bytes
  others ← literals_at fold n (room - length first.0) first.0 first.1
  Ok (first.0 ∷ others.0, others.1)

-- the greatest flags of an entry
abbrev pub last_flags : Version → ℕ
last_flags One = 1
last_flags Two = 3

-- the profile and the literals of an entry, at most the version's limit
unfoldable pub list_at : Version → List ℕ → Result ((Profile × Literals) × List ℕ) Wrong
list_at version bytes = do
  flags ← field bytes (λ b. nat_le b (last_flags version)) Flags (byte_at bytes)
  n ← field flags.1 (λ n. nat_le 1 n && nat_le n (limit_of version)) Count (number_at w16 flags.1)
  texts ← literals_at (fold_of flags.0) n.0 MAX_LIST_LEN [] n.1
  Ok ((profile_of flags.0, record { folding = fold_of flags.0; texts = texts.0 }), texts.1)

-- the certificate of n literals, whether or not it holds: at most as many runs as buckets
unfoldable pub certificate_at : Profile → ℕ → List ℕ → Result (CertificateParts × List ℕ) Wrong
certificate_at profile n bytes = do
  runs ← field bytes (λ r. nat_le 1 r && nat_le r (buckets profile)) Runs (byte_at bytes)
  ends ← numbers_at w16 runs.0 runs.1
  cost ← number_at w64 ends.1
  potentials ← numbers_at w64 (buckets profile * n) cost.1
  Ok (record { profile = profile; ends = ends.0; cost = cost.0; potentials = potentials.0 }, potentials.1)

-- an entry
unfoldable pub plan_at : Version → List ℕ → Result (Plan × List ℕ) Wrong
plan_at version bytes = do
  list ← list_at version bytes
  certificate ← certificate_at list.0.0 (length list.0.1.texts) list.1
  Ok (record { literals = list.0.1; certificate = certificate.0 }, certificate.1)

-- there is a version of this number
abbrev pub is_version : ℕ → Bool
is_version number = nat_le 1 number && nat_le number 2

-- the version of a number that has one
abbrev pub version_of : ℕ → Version
version_of number = if number == 1 then One else Two

-- the head: the version and the number of plans
unfoldable pub head_at : List ℕ → Result ((Version × ℕ) × List ℕ) Wrong
head_at bytes = do
  magic ← field bytes (λ m. m == 0x4C504C46) Magic (number_at w32 bytes)
  version ← field magic.1 is_version wrong_version (number_at w16 magic.1)
  count ← field version.1 (λ n. nat_le n 64) Count (number_at w16 version.1)
  Ok ((version_of version.0, count.0), count.1)
