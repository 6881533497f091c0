-- What a filter gives the positions of slices of bytes.
use Rattle.std.specs.Prelude.{◌≡◌, ◌≢◌, ℕ, ◌+◌, List, length, slice_index}
use Rattle.nib_mask.specs.declared.masks.Masks.{Masks}
use Rattle.nib_mask.specs.Tables.{table_value}
use Rattle.byte_lanes.specs.Lanes.{HoldsBelow}

-- below n, the list has at each position the filter number of the three bytes there
abbrev pub IsFilteredBelow : Masks → List ℕ → List ℕ → List ℕ → ℕ → List ℕ → Type 0
IsFilteredBelow masks x0 x1 x2 =
    HoldsBelow (λ k. table_value masks (slice_index x0 k) (slice_index x1 k) (slice_index x2 k))

-- the list is as long as the others, and has at each position the filter number of the three bytes there
pub record IsFiltered (masks : Masks) (x0 x1 x2 out : List ℕ) : Type 0 where
  pub long : length out ≡ length x0
  pub each : IsFilteredBelow masks x0 x1 x2 (length x0) out

-- the filter number of the three bytes from a position of the text on
abbrev pub value_from : Masks → List ℕ → ℕ → ℕ
value_from masks text place =
    table_value masks (slice_index text place) (slice_index text (place + 1)) (slice_index text (place + 2))

-- it is not zero
abbrev pub IsMarked : Masks → List ℕ → ℕ → Type 0
IsMarked masks text place = value_from masks text place ≢ 0
