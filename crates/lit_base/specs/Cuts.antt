-- Cuts of a list of places into runs, one after the other, each given by the place where it ends.
use Rattle.std.specs.Prelude.{◌≡◌, ℕ, ◌+◌, ◌-◌, ◌<◌, ◌≤◌, List, [], ◌∷◌, length, slice_index}
use Rattle.std.specs.List.Sorted.{IsStrictlyIncreasing}
use Rattle.lit_base.specs.Costs.{run_cost}
use Rattle.lit_base.specs.Literals.{Literals, lengths}

-- the ends cut the places from p up to n: each lies past the one before it, and the last is n
abbrev pub CutsFrom : ℕ → ℕ → List ℕ → Type 0
CutsFrom n p [] = p ≡ n
CutsFrom n p (end ∷ ends) = (p < end) × CutsFrom n end ends

-- the ends cut n places, at least one, into at most `most` runs
pub record IsCut (most n : ℕ) (ends : List ℕ) : Type 0 where
  pub some : 0 < n
  pub cuts : CutsFrom n 0 ends
  pub few : length ends ≤ most

-- the same at a glance: one to `most` ends, strictly increasing, the first at least 1 and the last n
pub record IncreasesTo (most n : ℕ) (ends : List ℕ) : Type 0 where
  pub some : 1 ≤ length ends
  pub few : length ends ≤ most
  pub rising : IsStrictlyIncreasing ends
  pub first : 1 ≤ slice_index ends 0
  pub last : slice_index ends (length ends - 1) ≡ n

-- the sum of the costs of the runs from p on, by the costs c of a run
abbrev pub cut_price : (ℕ → ℕ → ℕ) → ℕ → List ℕ → ℕ
cut_price c p [] = 0
cut_price c p (end ∷ ends) = c p end + cut_price c end ends

-- no cut of the literals into at most `most` runs costs less than the price
abbrev pub NoCutBelow : ℕ → Literals → ℕ → Type 0
NoCutBelow most l price =
    (ends : List ℕ) → IsCut most (length l.texts) ends → price ≤ cut_price (run_cost (lengths l)) 0 ends
