-- The first fault of a text that is no plan file: its place and its cause. Before it stand the head, whole right plans,
-- and of the next entry the start and whole right literals. Of the next part then comes the first bad field.
-- Three faults show only once their bytes are whole: a letter that is not folded, a literal out of order, a certificate
-- that does not hold. No plan goes on from a wrong cost, but the flags of the whole entry are blamed. Another fault is
-- that bytes follow the last plan.
use Rattle.std.specs.Prelude.{◌≡◌, ◌≢◌, ℕ, zero, suc, ◌-◌, ◌<◌, ◌≤◌, List, [], ◌∷◌, ◌++◌, length, sum_by, drop, All, nat_lt, if◌then◌else◌, ◌⊎◌}
use Rattle.std.specs.List.{flat_map}
use Rattle.std.specs.declared.cmp.Ordering.TheVariants.{Less}
use Rattle.lit_base.specs.declared.fold.Fold.{Fold}
use Rattle.lit_base.specs.declared.limits.TheConstants.{MAX_LIST_LEN}
use Rattle.lit_base.specs.declared.profile.Profile.{Profile}
use Rattle.lit_base.specs.Folding.{folded_text}
use Rattle.lit_base.specs.Literals.{Literals, IsNormal, literal_cmp}
use Rattle.lit_cert.specs.declared.reason.Reason.{Reason}
use Rattle.lit_cert.specs.Certified.{IsFirstFailure}
use Rattle.lit_plan.specs.Plans.{Plan}
use Rattle.plan_file.specs.declared.fault.Cause.{Cause}
use Rattle.plan_file.specs.declared.fault.Cause.TheVariants.{Short, Literal, Order, NotCertified, Trailing}
use Rattle.plan_file.specs.declared.fault.Wrong.{Wrong}
use Rattle.plan_file.specs.declared.version.Version.{Version}
use Rattle.plan_file.specs.FirstBad.{FitsCertificate, FitsHead, FitsList, FitsLiteral, FitsStart, IsFirstBad, Start, certificate_fields, head_fields, literal_fields, start_fields, text_of}
use Rattle.plan_file.specs.Reading.{folded_len, wrong_at}
use Rattle.plan_file.specs.Spelling.{head_text, literal_text, literals_text, plan_text, HasFields, IsPlan}

-- ---- literals

-- no room is left: whatever the length of the literal is, it is wrong
abbrev pub IsFull : ℕ → List ℕ → Wrong → Type 0
IsFull room bytes w = (room ≡ 0) × (w ≡ wrong_at (if nat_lt (length bytes) 2 then Short else Literal) bytes)

-- a whole literal stands at the start, with a letter that is not folded: the first one is wrong
pub record IsUnfolded (fold : Fold) (room : ℕ) (bytes : List ℕ) (w : Wrong) : Type 0 where
  pub text : List ℕ
  pub rest : List ℕ
  pub fits : FitsLiteral room text
  pub bytes_are : bytes ≡ literal_text text ++ rest
  pub unfolded : folded_len fold text < length text
  pub wrong_is : w ≡ wrong_at Literal (drop (folded_len fold text) text ++ rest)

-- a whole literal stands at the start, folded, but not after the one before it: its length is wrong
pub record IsOutOfOrder (fold : Fold) (room : ℕ) (before bytes : List ℕ) (w : Wrong) : Type 0 where
  pub text : List ℕ
  pub rest : List ℕ
  pub fits : FitsLiteral room text
  pub bytes_are : bytes ≡ literal_text text ++ rest
  pub folded : folded_text fold text ≡ text
  pub not_after : literal_cmp before text ≢ Less
  pub wrong_is : w ≡ wrong_at Order bytes

-- this is wrong with a literal after another one, where there is room for `room` bytes. A letter and the order are
-- asked for once the literal is whole
abbrev pub IsWrongLiteral : Fold → ℕ → List ℕ → List ℕ → Wrong → Type 0
IsWrongLiteral fold room before bytes w =
    IsFirstBad (FitsLiteral room) literal_fields bytes w ⊎ IsFull room bytes w ⊎ IsUnfolded fold room bytes w ⊎ IsOutOfOrder fold room before bytes w

-- ---- entries

-- the last of literals, or else the one before them
abbrev pub last_of : List ℕ → List (List ℕ) → List ℕ
last_of before [] = before
last_of before (text ∷ texts) = last_of text texts

-- after the start and right literals, where one is missing, this is wrong with the next
pub record IsWrongInLiterals (version : Version) (bytes : List ℕ) (w : Wrong) : Type 0 where
  pub start : Start
  pub fits : FitsStart version start
  pub texts : List (List ℕ)
  pub rest : List ℕ
  pub bytes_are : bytes ≡ text_of (start_fields start) ++ (flat_map literal_text texts ++ rest)
  pub missing : length texts < start.count
  pub right : IsNormal (record { folding = start.fold; texts = texts })
  pub wrong : IsWrongLiteral start.fold (MAX_LIST_LEN - sum_by length texts) (last_of [] texts) rest w

-- this is wrong with the literals of an entry
abbrev pub IsWrongList : Version → List ℕ → Wrong → Type 0
IsWrongList version bytes w = IsFirstBad (FitsStart version) start_fields bytes w ⊎ IsWrongInLiterals version bytes w

-- after the start and all literals, the first bad field of the certificate
pub record IsWrongInCertificate (version : Version) (bytes : List ℕ) (w : Wrong) : Type 0 where
  pub profile : Profile
  pub literals : Literals
  pub fits : FitsList version profile literals
  pub rest : List ℕ
  pub bytes_are : bytes ≡ literals_text profile literals ++ rest
  pub wrong : IsFirstBad (FitsCertificate profile (length literals.texts)) certificate_fields rest w

-- a whole entry stands at the start, and its certificate fails for a reason: its flags are wrong
pub record IsNotCertified (version : Version) (bytes : List ℕ) (w : Wrong) : Type 0 where
  pub plan : Plan
  pub has : HasFields version plan
  pub rest : List ℕ
  pub bytes_are : bytes ≡ plan_text plan ++ rest
  pub reason : Reason
  pub first : IsFirstFailure plan.literals plan.certificate reason
  pub wrong_is : w ≡ wrong_at (NotCertified reason) bytes

-- this is wrong with an entry
abbrev pub IsWrongEntry : Version → List ℕ → Wrong → Type 0
IsWrongEntry version bytes w = IsWrongList version bytes w ⊎ IsWrongInCertificate version bytes w ⊎ IsNotCertified version bytes w

-- ---- files

-- this is wrong with the bytes after right plans, where this many plans are missing
abbrev pub IsWrongNext : Version → ℕ → List ℕ → Wrong → Type 0
IsWrongNext version zero rest w = (rest ≢ []) × (w ≡ wrong_at Trailing rest)
IsWrongNext version (suc missing) rest w = IsWrongEntry version rest w

-- of `count` plans the first are right, and this is wrong after them
pub record IsWrongAfter (version : Version) (count : ℕ) (bytes : List ℕ) (w : Wrong) : Type 0 where
  pub plans : List Plan
  pub rest : List ℕ
  pub each : All (IsPlan version) plans
  pub within : length plans ≤ count
  pub text_is : bytes ≡ flat_map plan_text plans ++ rest
  pub wrong : IsWrongNext version (count - length plans) rest w

-- after the head this is wrong
pub record IsWrongPlans (text : List ℕ) (w : Wrong) : Type 0 where
  pub version : Version
  pub count : ℕ
  pub few : count ≤ 64
  pub rest : List ℕ
  pub text_is : text ≡ head_text version count ++ rest
  pub wrong : IsWrongAfter version count rest w

-- this is wrong with a text: the first bad field of its head, or something after it
abbrev pub IsWrong : List ℕ → Wrong → Type 0
IsWrong text w = IsFirstBad FitsHead head_fields text w ⊎ IsWrongPlans text w

-- the first fault of a text, at its place
pub record IsFirstFault (text : List ℕ) (place : ℕ) (cause : Cause) : Type 0 where
  pub within : place ≤ length text
  pub wrong : IsWrong text (record { left = length text - place; cause = cause })

-- ---- inside the crate: the plans after the head

-- the bytes are `count` plans
pub record AreEntries (version : Version) (count : ℕ) (bytes : List ℕ) (plans : List Plan) : Type 0 where
  pub each : All (IsPlan version) plans
  pub count_is : length plans ≡ count
  pub text_is : bytes ≡ flat_map plan_text plans
