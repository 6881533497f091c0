-- Patterns that stand in the list already, or that are null: what the normal form drops. A pattern is known here by the
-- place of its literal in the list, where it has one.
use Rattle.std.specs.Prelude.{ℕ, ◌+◌, Bool, List, [], ◌∷◌, false, flat_map, nat_eq, Option, None, Some, is_none, count_by, take}
use Rattle.std.specs.List.{position, range_with_len, slice_get}
use Rattle.plan_view.specs.declared.repeats.Repeat.{Repeat}

-- it has this literal
abbrev pub has_place : ℕ → Option ℕ → Bool
has_place place None = false
has_place place (Some other) = nat_eq other place

-- the first pattern with the literal, among these
abbrev pub first_with : Option (Option ℕ) → List (Option ℕ) → Option ℕ
first_with None before = None
first_with (Some None) before = None
first_with (Some (Some place)) before = position (has_place place) before

-- the first pattern before the k-th that has the same literal
abbrev pub earlier : List (Option ℕ) → ℕ → Option ℕ
earlier places k = first_with (slice_get places k) (take k places)

-- the k-th pattern with that one, where there is one; both by their lines, which count from 1
abbrev pub repeat_at : ℕ → Option ℕ → List Repeat
repeat_at k None = []
repeat_at k (Some first) = record { line = k + 1; first_line = first + 1 } ∷ []

-- the lines of the patterns among the first n whose literal an earlier one has, each with the line of the first
unfoldable pub repeats : List (Option ℕ) → ℕ → List Repeat
repeats places n = flat_map (λ k. repeat_at k (earlier places k)) (range_with_len 0 n)

-- how many patterns have no literal: the null patterns
abbrev pub nulls : List (Option ℕ) → ℕ
nulls places = count_by is_none places
