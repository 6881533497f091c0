-- Steps of one row: by the potentials of the row and of the row before it.
use Rattle.std.specs.Prelude.{◌≡◌, ℕ, ◌+◌, ◌<◌, ◌≤◌, List, length, slice_index}
use Rattle.lit_base.specs.Literals.{Literals}
use Rattle.lit_cert.specs.Certified.{cost_of}

-- the cost of the run from p to q, with the potential at its end
abbrev pub price_of : Literals → List ℕ → ℕ → ℕ → ℕ
price_of l before p q = cost_of l p q + slice_index before q

-- the potential at p is above none of the runs that end from first up to but not including end
abbrev pub Fits : Literals → List ℕ → List ℕ → ℕ → ℕ → ℕ → Type 0
Fits l here before p first end =
    (q : ℕ) → p < q → first ≤ q → q < end → slice_index here p ≤ price_of l before p q

-- each potential from place low up to but not including high is above no run at all
abbrev pub AllFit : Literals → List ℕ → List ℕ → ℕ → ℕ → Type 0
AllFit l here before low high =
    (p : ℕ) → low ≤ p → p < high → Fits l here before p 0 (length l.texts)

-- for these it suffices that they are above none of the runs that end from first up to but not including end
abbrev pub RunsSuffice : Literals → List ℕ → List ℕ → ℕ → ℕ → ℕ → ℕ → Type 0
RunsSuffice l here before low high first end =
    (p : ℕ) → low ≤ p → p < high → Fits l here before p first end → Fits l here before p 0 (length l.texts)

-- q is the end of a cheapest run from p, among the ends from first up to but not including end, and price is its price
pub record IsLeastRun (l : Literals) (before : List ℕ) (p first end q price : ℕ) : Type 0 where
  pub low : first ≤ q
  pub high : q < end
  pub price_is : price ≡ price_of l before p q
  pub least : (k : ℕ) → first ≤ k → k < end → price ≤ price_of l before p k
