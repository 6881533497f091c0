-- What a search of one text is for, and what searches find.
use Rattle.std.specs.Prelude.{◌≡◌, ℕ, List, IfOk, IsOk, MatchOption, OnErr, Option, Result}
use Rattle.lit_base.specs.Literals.{Literals}
use Rattle.lit_base.specs.NextEnds.{IsNextEnd, NoEndAfter}
use Rattle.lit_plan.specs.Plans.{Plan}
use Rattle.text_ends.specs.HitsAfter.{StopsAt}

-- the plan, and the text
pub record Searched : Type 0 where
  pub plan : Plan
  pub text : List ℕ

-- the first position after another at which some literal ends, or none
abbrev pub FindsNext : Literals → List ℕ → ℕ → Option ℕ → Type 0
FindsNext l text from found = MatchOption found (NoEndAfter l text from) (IsNextEnd l text from)

-- the hits after `from`, which counts as `at`, are added to a list up to where the result says. Memory is refused only
-- after a hit was found, and the list is then unchanged
pub record AddsHits {E : Type 0} (l : Literals) (text : List ℕ) (from at most : ℕ) (old new : List (ℕ × ℕ)) (result : Result ℕ E) : Type 0 where
  pub ok : IfOk result (λ stop. StopsAt l text from at most stop old new)
  pub same_hits : OnErr result (new ≡ old)
  pub quiet : NoEndAfter l text from → IsOk result
