-- Which ends of literals the bytes before some positions rule out, bucket by bucket: shift-or over buckets of literals.
use Rattle.std.specs.Prelude.{◌≡◌, ℕ, ◌+◌, ◌-◌, ◌*◌, ◌%◌, ◌<◌, ◌≤◌, ◌↔◌, ◌⊎◌, List, length, slice_index, ◌/◌, ◌^◌}
use Rattle.std.specs.Int.{bit_at}
use Rattle.std.specs.Int.RustNames.{bit_or}
use Rattle.lit_base.specs.Literals.{Literals, literal_at}
use Rattle.list_index.specs.HashBits.{AreKeyBits}
use Rattle.lit_base.specs.Occurrences.{Occurs}
use Rattle.list_index.specs.Suffixes.{case_bits, last_key, suffix_key}
use Rattle.lit_base.specs.declared.fold.Fold.{Fold}
use Rattle.shift_search.specs.declared.bucket_checks.BucketChecks.{BucketChecks}
use Rattle.shift_search.specs.declared.bucket_checks.TheConstants.{CHECK_BITS}
use Rattle.shift_search.specs.declared.entries.TheConstants.{ENTRIES}
use Rattle.shift_search.specs.declared.joining.FourRuled.{FourRuled}
use Rattle.shift_search.specs.declared.joining.Ruled.{Ruled}

-- the value of a `ShiftOr` in contracts: the literals, and the bucket of each
pub record Bucketing : Type 0 where
  pub literals : Literals
  pub buckets : List ℕ

-- the bucket of a literal, one of eight
abbrev pub bucket_at : List ℕ → ℕ → ℕ
bucket_at buckets place = slice_index buckets place % 8

-- the number that the two bytes before a position of a text spell, with the last byte as the high one, without the case
-- of letters
abbrev pub number_at : Fold → List ℕ → ℕ → ℕ
number_at fold text at = suffix_key fold text at 2 / 2 ^ 48

-- the number of the last byte alone
abbrev pub last_number_at : Fold → List ℕ → ℕ → ℕ
last_number_at fold text at = suffix_key fold text at 1 / 2 ^ 56

-- the bits of case in two bytes
abbrev pub pair_case_bits : Fold → ℕ
pair_case_bits fold = case_bits fold / 2 ^ 48

-- a word rules out ends from a position of a text on: byte k stands for the end k positions further on. If a literal
-- ends there, the byte lacks the bit of its bucket
abbrev pub RulesOut : Bucketing → List ℕ → ℕ → ℕ → Type 0
RulesOut b text at word = (place ahead : ℕ) → ahead < 8 → Occurs b.literals text place (at + ahead) → bit_at word (8 * ahead + bucket_at b.buckets place) ≡ 0

-- four words in a row do so, each from eight positions after the one before
abbrev pub RulesOutWords : Bucketing → List ℕ → ℕ → List ℕ → Type 0
RulesOutWords b text at words = (i : ℕ) → i < 4 → RulesOut b text (at + 8 * i) (slice_index words i)

-- the ends that probes rule out from a position on, and from eight positions further on
pub record IsRuled (b : Bucketing) (text : List ℕ) (at : ℕ) (ruled : Ruled) : Type 0 where
  pub here : RulesOut b text at ruled.here
  pub after : RulesOut b text (at + 8) ruled.after

-- as above, for four words in a row
pub record AreRuled (b : Bucketing) (text : List ℕ) (at : ℕ) (ruled : FourRuled) : Type 0 where
  pub here : RulesOutWords b text at ruled.here
  pub after : RulesOutWords b text (at + 8) ruled.after

-- no literal of a bucket ends at a position
abbrev pub NoneOf : Bucketing → List ℕ → ℕ → ℕ → Type 0
NoneOf b text bucket end = (place : ℕ) → bucket_at b.buckets place ≡ bucket → ¬ Occurs b.literals text place end

-- a literal that ends `ahead` positions after two bytes does not reach back to them
abbrev pub IsShort : List ℕ → ℕ → Type 0
IsShort literal ahead = length literal ≤ ahead

-- it begins with the last of the two bytes that a number spells, or has both there
abbrev pub FitsPair : Fold → ℕ → List ℕ → ℕ → Type 0
FitsPair fold number literal ahead = ((length literal ≡ 1 + ahead) × (number / 256 ≡ last_number_at fold literal 1))
    ⊎ ((2 + ahead ≤ length literal) × (number ≡ number_at fold literal (length literal - ahead)))

-- the bit is that of a literal's bucket, and of an end for which the literal fits
abbrev pub IsPassOf : (List ℕ → ℕ → Type 0) → List ℕ → ℕ → ℕ → Type 0
IsPassOf Fits literal bucket bit = (bit % 8 ≡ bucket) × Fits literal (bit / 8)

-- the bit is that of one of the first literals of a list
pub record IsPass (l : Literals) (buckets : List ℕ) (Fits : List ℕ → ℕ → Type 0) (count bit : ℕ) : Type 0 where
  pub place : ℕ
  pub within : place < count
  pub is : IsPassOf Fits (literal_at l place) (bucket_at buckets place) bit

-- a word lacks some bits, and else those alone that it lacked before
abbrev pub IsCleared : ℕ → ℕ → (ℕ → Type 0) → Type 0
IsCleared old new Bits = (bit : ℕ) → bit < 64 → (bit_at new bit ≡ 0) ↔ ((bit_at old bit ≡ 0) ⊎ Bits bit)

-- so does each word of a table
abbrev pub AreCleared : List ℕ → List ℕ → (ℕ → ℕ → Type 0) → Type 0
AreCleared old new Bits = (number : ℕ) → IsCleared (slice_index old number) (slice_index new number) (Bits number)

-- a literal of the list needs the entry of two bytes to lack a bit: it does not reach back to them, or fits them
abbrev pub IsNeeded : Literals → List ℕ → ℕ → ℕ → Type 0
IsNeeded l buckets number bit = IsPass l buckets IsShort (length l.texts) bit
    ⊎ IsPass l buckets (FitsPair l.folding number) (length l.texts) bit

-- a table has an entry for each pair of bytes. It lacks the bits that some literal needs it to lack, and no others; its
-- two bytes count without the case of letters
pub record AreEntriesOf (l : Literals) (buckets entries : List ℕ) : Type 0 where
  pub all : length entries ≡ ENTRIES
  pub each : (number bit : ℕ) → number < ENTRIES → bit < 64 → (bit_at (slice_index entries number) bit ≡ 0)
      ↔ IsNeeded l buckets (bit_or number (pair_case_bits l.folding)) bit

-- the buckets have key lengths from one to eight bytes, and none of the first literals is shorter than its bucket's
pub record AreWidthsOf (l : Literals) (buckets widths : List ℕ) (count : ℕ) : Type 0 where
  pub eight : length widths ≡ 8
  pub some : (bucket : ℕ) → bucket < 8 → 0 < slice_index widths bucket
  pub narrow : (bucket : ℕ) → bucket < 8 → slice_index widths bucket ≤ 8
  pub long : (place : ℕ) → place < count → slice_index widths (bucket_at buckets place) ≤ length (literal_at l place)

-- the key of the literal at a place by the key length of its bucket
abbrev pub bucket_key : Literals → List ℕ → List ℕ → ℕ → ℕ
bucket_key l buckets widths place = last_key l (slice_index widths (bucket_at buckets place)) place

-- each literal's key has the bit of its bucket, and nothing else has
pub record AreBucketChecksOf (l : Literals) (buckets : List ℕ) (checks : BucketChecks) : Type 0 where
  pub case : checks.case_bits ≡ case_bits l.folding
  pub widths : AreWidthsOf l buckets checks.widths.items (length l.texts)
  pub bits : AreKeyBits CHECK_BITS (bucket_key l buckets checks.widths.items) (bucket_at buckets) (length l.texts) checks.table.items
