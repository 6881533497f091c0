-- The entries of a table that are not zero.
use Rattle.std.specs.Prelude.{◌≡◌, ℕ, zero, suc, ◌<◌, ◌==◌, if◌then◌else◌, List, [], slice_index, slice_index_or, bit_or}
use Rattle.nib_mask.specs.declared.masks.Masks.{Masks}
use Rattle.byte_lanes.specs.declared.entries.Entries.{Entries}
use Rattle.byte_lanes.specs.declared.entries.MaskEntries.{MaskEntries}

-- the joined values of the entries, among the first n, that stand for a half of a byte
unfoldable pub entries_value : List ℕ → List ℕ → ℕ → ℕ → ℕ
entries_value halves values zero half = 0
entries_value halves values (suc n) half =
    bit_or (entries_value halves values n half) (if half == slice_index halves n then slice_index values n else 0)

-- the entries give each half what the table gives it
abbrev pub AreEntriesOf : List ℕ → Entries → Type 0
AreEntriesOf table entries =
    (half : ℕ) → half < 16 → entries_value entries.halves entries.values entries.count half ≡ slice_index table half

-- the entries of each table of the masks
pub record AreMaskEntries (masks : Masks) (entries : MaskEntries) : Type 0 where
  pub third_low : AreEntriesOf (slice_index_or masks.low 0 []) entries.third_low
  pub third_high : AreEntriesOf (slice_index_or masks.high 0 []) entries.third_high
  pub second_low : AreEntriesOf (slice_index_or masks.low 1 []) entries.second_low
  pub second_high : AreEntriesOf (slice_index_or masks.high 1 []) entries.second_high
  pub last_low : AreEntriesOf (slice_index_or masks.low 2 []) entries.last_low
  pub last_high : AreEntriesOf (slice_index_or masks.high 2 []) entries.last_high
