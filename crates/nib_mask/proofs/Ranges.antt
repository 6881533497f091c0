-- The literals of a run, by their places in the whole list.
use Rattle.std.proofs.Common.{◌≡◌, ℕ, ◌+◌, ◌-◌, ◌<◌, ◌≤◌, List, get_or, slice_range, ap, ◌∙◌, arith}
use Rattle.std.proofs.lemmas.List.Edits.{get_or-between}

-- the item that stands in a range at a place of the whole
pub get_or-range : {X : Type 0} (xs : List X) (start end place : ℕ) (d : X) → start ≤ place → place < end → get_or (slice_range xs start end) (place - start) d ≡ get_or xs place d
get_or-range xs start end place d from before =
    let at : start + (place - start) ≡ place = omega arith in
    get_or-between xs start end (place - start) d (omega arith) ∙ ap (λ k. get_or xs k d) at
