-- Where in a text some literal ends next, and where none does: what each search of a text answers, whatever it goes by.
use Rattle.std.specs.Prelude.{ℕ, ◌<◌, ◌≤◌, List, MatchOption, Option, length}
use Rattle.lit_base.specs.Literals.{Literals}
use Rattle.lit_base.specs.Occurrences.{HasEnd, IsFirstEnding}

-- none ends after a place and up to another one
abbrev pub NoEndUpTo : Literals → List ℕ → ℕ → ℕ → Type 0
NoEndUpTo l text from last = (end : ℕ) → from < end → end ≤ last → ¬ HasEnd l text end

-- none ends after a place
abbrev pub NoEndAfter : Literals → List ℕ → ℕ → Type 0
NoEndAfter l text from = (end : ℕ) → from < end → ¬ HasEnd l text end

-- the first place after another one at which some literal ends
pub record IsNextEnd (l : Literals) (text : List ℕ) (from end : ℕ) : Type 0 where
  pub after : from < end
  pub within : end ≤ length text
  pub here : HasEnd l text end
  pub first : (other : ℕ) → from < other → other < end → ¬ HasEnd l text other

-- the first place after another one at which some literal ends, and the first literal that ends there
pub record IsFirstFound (l : Literals) (text : List ℕ) (from end place : ℕ) : Type 0 where
  pub after : from < end
  pub none : (other : ℕ) → from < other → other < end → ¬ HasEnd l text other
  pub first : IsFirstEnding l text 0 end place

-- what a search finds after one place of a text, if it is no further than another one
abbrev pub Finds : Literals → List ℕ → ℕ → ℕ → Option (ℕ × ℕ) → Type 0
Finds l text from last found = MatchOption found (NoEndUpTo l text from last) (λ hit. IsFirstFound l text from hit.0 hit.1)
