-- A walk over candidates, one step further.
use Rattle.std.proofs.Common.{ℕ, ◌<◌, ◌≤◌, List, All, inl, inr}
use Rattle.std.proofs.lemmas.Bool.{cases_lt}
use Rattle.lit_base.specs.Literals.{Literals}
use Rattle.lit_base.specs.Occurrences.{HasEnd}
use Rattle.nib_mask.specs.Candidates.{CoversBy}
use Rattle.lane_filter.specs.Prefilters.{Passes}
use Rattle.lane_filter.specs.declared.prefilter.Prefilter.{Prefilter}

-- a literal that ends nowhere up to a position, and has no candidate from there to another, ends nowhere before the
-- other
pub none_before : (l : Literals) (prefilter : Prefilter) (text : List ℕ) (old from to : ℕ) → CoversBy l (Passes prefilter) → All (λ b. b < 256) text → ((other : ℕ) → old < other → other ≤ from → ¬ HasEnd l text other) → ((other : ℕ) → from < other → other < to → ¬ Passes prefilter text other) → (other : ℕ) → old < other → other < to → ¬ HasEnd l text other
none_before l prefilter text old from to covers bytes passed quiet other after before here =
    elim (cases_lt from other) [ inl later ↦ quiet other later before (covers text here.0 other bytes here.1) | inr within ↦ passed other after within here ]
