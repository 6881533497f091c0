-- The hits at a position of a text at which some literal ends.
use Rattle.std.specs.Prelude.{◌≡◌, ℕ, ◌↔◌, List, ◌++◌, Contains}
use Rattle.std.specs.List.Sorted.{IsStrictlySortedBy}
use Rattle.lit_base.specs.Literals.{Literals}
use Rattle.lit_base.specs.Occurrences.{Occurs, hit_cmp}

-- the hits at one position of the text, which counts as `at`
pub record AreHitsAt (l : Literals) (text : List ℕ) (end at : ℕ) (found : List (ℕ × ℕ)) : Type 0 where
  pub rising : IsStrictlySortedBy hit_cmp found
  pub members : (place position : ℕ) → Contains found (place, position) ↔ ((position ≡ at) × Occurs l text place end)

-- a list of hits has gained them, at its end
pub record GainsHitsAt (l : Literals) (text : List ℕ) (end at : ℕ) (old new : List (ℕ × ℕ)) : Type 0 where
  pub found : List (ℕ × ℕ)
  pub grown : new ≡ old ++ found
  pub added : AreHitsAt l text end at found

-- a list of hits has gained some, at its end
abbrev pub Extends : List (ℕ × ℕ) → List (ℕ × ℕ) → Type 0
Extends old new = (more : List (ℕ × ℕ)) × (new ≡ old ++ more)
