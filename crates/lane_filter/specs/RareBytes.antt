-- A byte of a literal, and the positions of a text before which it stands.
use Rattle.std.specs.Prelude.{◌≡◌, ℕ, ◌+◌, ◌-◌, ◌<◌, ◌≤◌, ◌&&◌, nat_le, if◌then◌else◌, List, Some, length, slice_index, bit_or}
use Rattle.std.specs.List.{slice_get}
use Rattle.lit_base.specs.declared.fold.Fold.{Fold}
use Rattle.lit_base.specs.declared.fold.Fold.TheVariants.{No, Ascii}
use Rattle.lit_base.specs.Literals.{Literals}
use Rattle.lane_filter.specs.declared.rare_byte.RareByte.{RareByte}

-- the bit of a folded byte's case: 32 for a letter, or none if case counts
abbrev pub case_bit : Fold → ℕ → ℕ
case_bit No byte = 0
case_bit Ascii byte = if nat_le 97 byte && nat_le byte 122 then 32 else 0

-- the byte at a place of a folded literal
pub record IsRareByteOf (fold : Fold) (literal : List ℕ) (place : ℕ) (rare : RareByte) : Type 0 where
  pub within : place < length literal
  pub after : rare.after + 1 + place ≡ length literal
  pub byte : rare.byte ≡ slice_index literal place
  pub case_bit : rare.case_bit ≡ case_bit fold (slice_index literal place)

-- the literal at a place of the list has this byte and no other
pub record IsOnlyByteOf (l : Literals) (place : ℕ) (rare : RareByte) : Type 0 where
  pub literal : List ℕ
  pub stands : slice_get l.texts place ≡ Some literal
  pub alone : length literal ≡ 1
  pub byte : IsRareByteOf l.folding literal 0 rare

-- a literal with this byte may end at this position of the text: as far before it as in the literal the text has the
-- byte, in either case of a letter where case is ignored
pub record IsEndOfByte (rare : RareByte) (text : List ℕ) (end : ℕ) : Type 0 where
  pub after : rare.after < end
  pub within : end ≤ length text
  pub stands : bit_or (slice_index text (end - 1 - rare.after)) rare.case_bit ≡ rare.byte
