-- Three bytes of a literal, and the positions of a text before which they stand.
use Rattle.std.specs.Prelude.{◌≡◌, ℕ, ◌≤◌, List, Some, length}
use Rattle.std.specs.List.{slice_get}
use Rattle.lit_base.specs.Literals.{Literals}
use Rattle.byte_lanes.specs.declared.all_of.AllOf.{AllOf}
use Rattle.lane_filter.specs.Pairs.{BytePair, IsOneOf, IsPairEnd, IsPairOf}
use Rattle.lane_filter.specs.RareBytes.{IsEndOfByte, IsRareByteOf}
use Rattle.lane_filter.specs.declared.rare_byte.RareByte.{RareByte}

-- one byte, and two more
abbrev pub ByteTriple : Type 0
ByteTriple = AllOf RareByte BytePair

-- the first two of three bytes
abbrev pub pair_of : ByteTriple → BytePair
pair_of triple = record { one = triple.one; other = triple.other.one }

-- a literal with these bytes may end at this position of the text: all of them stand before it
abbrev pub IsTripleEnd : ByteTriple → List ℕ → ℕ → Type 0
IsTripleEnd triple = λ text end. IsEndOfByte triple.one text end × IsPairEnd triple.other text end

-- a pair of bytes of the literal at a place of the list, and a third byte of it, another one if it has three
pub record IsTripleOf (l : Literals) (place : ℕ) (triple : ByteTriple) : Type 0 where
  pub pair : IsPairOf l place (pair_of triple)
  pub literal : List ℕ
  pub stands : slice_get l.texts place ≡ Some literal
  pub third_place : ℕ
  pub third : IsRareByteOf l.folding literal third_place triple.other.other
  pub apart : 3 ≤ length literal → ¬ IsOneOf (pair_of triple) triple.other.other.after
