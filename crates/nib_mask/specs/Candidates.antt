-- The positions of a text that a filter passes, and the law that every occurrence ends at one.
use Rattle.std.specs.Prelude.{◌≡◌, ◌≢◌, ℕ, ◌+◌, ◌-◌, ◌<◌, ◌≤◌, List, [], ◌∷◌, ◌++◌, All, length, slice_index}
use Rattle.lit_base.specs.Literals.{Literals}
use Rattle.lit_base.specs.Occurrences.{Occurs}
use Rattle.nib_mask.specs.declared.masks.Masks.{Masks}
use Rattle.nib_mask.specs.FilterSet.{filter_set}
use Rattle.nib_mask.specs.Tables.{table_value}

-- the filter number of the last three bytes of two bytes and the first `end` bytes of the text
abbrev pub filter_number_at : Masks → List ℕ → List ℕ → ℕ → ℕ
filter_number_at masks before text end =
    table_value masks (slice_index (before ++ text) (end - 1)) (slice_index (before ++ text) end)
    (slice_index (before ++ text) (end + 1))

-- the filter set of the same three bytes
abbrev pub filter_set_at : Literals → List ℕ → List ℕ → List ℕ → ℕ → ℕ
filter_set_at l ends before text end =
    filter_set l ends (slice_index (before ++ text) (end - 1)) (slice_index (before ++ text) end)
    (slice_index (before ++ text) (end + 1))

-- a literal may end at this position of the text: its filter number, with two zero bytes before the text, is not zero
pub record IsCandidate (masks : Masks) (text : List ℕ) (end : ℕ) : Type 0 where
  pub some : 1 ≤ end
  pub within : end ≤ length text
  pub marked : filter_number_at masks (0 ∷ 0 ∷ []) text end ≢ 0

-- a test of ends misses no occurrence: where a literal ends, in any text, the test passes the position
abbrev pub CoversBy : Literals → (List ℕ → ℕ → Type 0) → Type 0
CoversBy l passes = (text : List ℕ) (place end : ℕ) → All (λ b. b < 256) text → Occurs l text place end → passes text end

-- the filter misses no occurrence: where a literal ends, there is a candidate
abbrev pub Covers : Literals → Masks → Type 0
Covers l masks = CoversBy l (IsCandidate masks)

-- the tables give each three bytes their filter set, for literals and a cut of them
abbrev pub GivesFilterSets : Literals → List ℕ → Masks → Type 0
GivesFilterSets l ends masks =
    (a b c : ℕ) → a < 256 → b < 256 → c < 256 → table_value masks a b c ≡ filter_set l ends a b c
