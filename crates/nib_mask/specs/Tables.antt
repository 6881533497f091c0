-- What the tables of a `Masks` say of bytes: a number whose bit b stands for bucket b.
use Rattle.std.specs.Prelude.{◌≡◌, ℕ, ◌/◌, ◌%◌, ◌<◌, ◌||◌, not, if◌then◌else◌, [], Bool, List, bit_and, slice_index, slice_index_or}
use Rattle.std.specs.Int.{bit_at}
use Rattle.lit_base.specs.declared.fold.Fold.{Fold}
use Rattle.nib_mask.specs.declared.half.Half.{Half}
use Rattle.nib_mask.specs.declared.masks.Masks.{Masks}
use Rattle.nib_mask.specs.FilterSet.{is_used, shares_half}

-- what a byte has at a position: the bits that the entries of its low half and of its high half share
unfoldable pub value_at : Masks → ℕ → ℕ → ℕ
value_at masks position byte =
    bit_and (slice_index (slice_index_or masks.low position []) (byte % 16))
    (slice_index (slice_index_or masks.high position []) (byte / 16))

-- the filter number of three bytes: the bits that they share at the positions 0, 1 and 2
unfoldable pub table_value : Masks → ℕ → ℕ → ℕ → ℕ
table_value masks a b c = bit_and (bit_and (value_at masks 0 a) (value_at masks 1 b)) (value_at masks 2 c)

-- a table keeps the run at its entry for this half: the position is not used, or the run shares the half there
unfoldable pub allows : Fold → ℕ → Half → ℕ → List (List ℕ) → Bool
allows fold position half value run = not (is_used position run) || shares_half fold position half value run

-- the bits of a number say which halves pass a test
abbrev pub AreHalvesOf : ℕ → (ℕ → Bool) → Type 0
AreHalvesOf halves test = (value : ℕ) → value < 16 → bit_at halves value ≡ (if test value then 1 else 0)
