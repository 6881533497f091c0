-- Splits: one run from a place to an end, and the rest after the end.
use Rattle.std.specs.Prelude.{◌≡◌, ℕ, ◌+◌, ◌<◌, ◌≤◌}

-- by the prices c of a run and `rest` after each place, no run from p on costs less, with the rest after it, than the
-- one to this end
pub record IsBestEnd (c : ℕ → ℕ → ℕ) (rest : ℕ → ℕ) (n p end : ℕ) : Type 0 where
  pub past : p < end
  pub within : end ≤ n
  pub least : (q : ℕ) → p < q → q ≤ n → c p end + rest end ≤ c p q + rest q

-- v is the price of the best run from p on with the rest after it
pub record IsLeastSplit (c : ℕ → ℕ → ℕ) (rest : ℕ → ℕ) (n p v : ℕ) : Type 0 where
  pub end : ℕ
  pub best : IsBestEnd c rest n p end
  pub value : v ≡ c p end + rest end

-- no end of a run from p on beats all those from `first` to `last`
abbrev pub SufficeAt : (ℕ → ℕ → ℕ) → (ℕ → ℕ) → ℕ → ℕ → ℕ → ℕ → Type 0
SufficeAt c rest n first last p =
    (q : ℕ) → p < q → q ≤ n → (end : ℕ) × (first ≤ end) × (end ≤ last) × (p < end) × (c p end + rest end ≤ c p q + rest q)

-- nor does one of a run from any place from `low` up to but not including `high`
abbrev pub Suffice : (ℕ → ℕ → ℕ) → (ℕ → ℕ) → ℕ → ℕ → ℕ → ℕ → ℕ → Type 0
Suffice c rest n low high first last = (p : ℕ) → low ≤ p → p < high → SufficeAt c rest n first last p

-- the first end before n of a run from p on that costs v with the rest after it, or n where there is none
pub record IsFirstReaching (c : ℕ → ℕ → ℕ) (rest : ℕ → ℕ) (n p v end : ℕ) : Type 0 where
  pub past : p < end
  pub within : end ≤ n
  pub reaches : end < n → c p end + rest end ≡ v
  pub before : (q : ℕ) → p < q → q < end → c p q + rest q ≡ v → ⊥
