-- The order of cuts, by price, then by the number of runs, then by their ends, and the first cut in it.
use Rattle.std.specs.Prelude.{◌≡◌, ℕ, ◌<◌, ◌≤◌, ◌⊎◌, List, [], ◌∷◌, length}
use Rattle.lit_base.specs.Cuts.{CutsFrom, IsCut, cut_price}

-- the ends come no later than the others lexicographically
abbrev pub ComeNoLater : List ℕ → List ℕ → Type 0
ComeNoLater [] others = Unit {0}
ComeNoLater (end ∷ ends) [] = ⊥
ComeNoLater (end ∷ ends) (other ∷ others) = (end < other) ⊎ ((end ≡ other) × ComeNoLater ends others)

-- as cuts they cost less, or as much with fewer runs, or as much with as many runs and come no later
abbrev pub IsNoLaterCut : (ℕ → ℕ → ℕ) → List ℕ → List ℕ → Type 0
IsNoLaterCut c ends others =
    (cut_price c 0 ends < cut_price c 0 others)
    ⊎ ((cut_price c 0 ends ≡ cut_price c 0 others)
    × ((length ends < length others) ⊎ ((length ends ≡ length others) × ComeNoLater ends others)))

-- by the prices c of a run, the first of the cuts of n places into at most `most` runs
pub record IsFirstCut (c : ℕ → ℕ → ℕ) (most n : ℕ) (ends : List ℕ) : Type 0 where
  pub cut : IsCut most n ends
  pub first : (others : List ℕ) → IsCut most n others → IsNoLaterCut c ends others

-- by the prices c, the first of the cheapest cuts of the places from p up to n into at most r runs, which cost v
pub record IsFirstTail (c : ℕ → ℕ → ℕ) (n r p v : ℕ) (ends : List ℕ) : Type 0 where
  pub cuts : CutsFrom n p ends
  pub few : length ends ≤ r
  pub price : cut_price c p ends ≡ v
  pub first : (others : List ℕ) → CutsFrom n p others → length others ≤ r → cut_price c p others ≡ v → ComeNoLater ends others
