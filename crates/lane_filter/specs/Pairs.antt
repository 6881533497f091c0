-- Two bytes of a literal, and the positions of a text before which they stand.
use Rattle.std.specs.Prelude.{◌≡◌, ◌≢◌, ℕ, ◌+◌, ◌<◌, ◌≤◌, ◌⊎◌, List, Some, length, slice_index}
use Rattle.std.specs.List.{slice_get}
use Rattle.lit_base.specs.Literals.{Literals}
use Rattle.byte_lanes.specs.declared.all_of.AllOf.{AllOf}
use Rattle.lane_filter.specs.RareBytes.{IsEndOfByte, IsRareByteOf}
use Rattle.lane_filter.specs.declared.rare_byte.RareByte.{RareByte}

-- two bytes
abbrev pub BytePair : Type 0
BytePair = AllOf RareByte RareByte

-- a literal with this pair of bytes may end at this position of the text: both stand before it
abbrev pub IsPairEnd : BytePair → List ℕ → ℕ → Type 0
IsPairEnd pair = λ text end. IsEndOfByte pair.one text end × IsEndOfByte pair.other text end

-- one of both bytes has `after` bytes after it
abbrev pub IsOneOf : BytePair → ℕ → Type 0
IsOneOf pair after = (pair.one.after ≡ after) ⊎ (pair.other.after ≡ after)

-- of two places of a literal, the second has another byte than the first where one of the last 256 bytes is another
abbrev pub AreUnlike : List ℕ → ℕ → ℕ → Type 0
AreUnlike literal first second =
    (place : ℕ) → place < length literal → length literal ≤ place + 256 → slice_index literal place ≢ slice_index literal first
    → slice_index literal second ≢ slice_index literal first

-- two bytes of the literal at a place of the list, at two places if it is longer than one, and unlike if they can be
pub record IsPairOf (l : Literals) (place : ℕ) (pair : BytePair) : Type 0 where
  pub literal : List ℕ
  pub stands : slice_get l.texts place ≡ Some literal
  pub first_place : ℕ
  pub first : IsRareByteOf l.folding literal first_place pair.one
  pub second_place : ℕ
  pub second : IsRareByteOf l.folding literal second_place pair.other
  pub apart : 2 ≤ length literal → first_place ≢ second_place
  pub unlike : AreUnlike literal first_place second_place
