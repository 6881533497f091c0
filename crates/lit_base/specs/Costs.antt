-- What a group of literals that are searched for together costs: the table of weights and the formula are this
-- project's own.
use Rattle.std.specs.Prelude.{◌≡◌, ℕ, ◌+◌, ◌-◌, ◌*◌, ◌^◌, ◌<◌, ◌≤◌, min, List, [], ◌∷◌, length, slice_index, slice_index_or, slice_range, fold}

-- the weight by the shortest length in bytes: 4096 for one byte, falling to 8 from eight bytes on
unfoldable pub weight : ℕ → ℕ
weight m = slice_index_or (4096 ∷ 512 ∷ 151 ∷ 64 ∷ 32 ∷ 18 ∷ 11 ∷ []) (m - 1) 8

-- the cost of s literals whose shortest has m bytes
unfoldable pub cost : ℕ → ℕ → ℕ
cost s m = 200 + weight m * (s * s)

-- the cost of literals of the given lengths as one group; no literals cost nothing
abbrev pub group_cost : List ℕ → ℕ
group_cost [] = 0
group_cost (m ∷ ms) = cost (length (m ∷ ms)) (fold min m ms)

-- the cost of the literals from place p up to but not including q, where the first is the shortest
unfoldable pub run_cost : List ℕ → ℕ → ℕ → ℕ
run_cost ls p q = cost (q - p) (slice_index ls p)

-- their cost by the true shortest
unfoldable pub true_run_cost : List ℕ → ℕ → ℕ → ℕ
true_run_cost ls p q = group_cost (slice_range ls p q)

-- the costs of the runs of n places are small
abbrev pub AreSmall : (ℕ → ℕ → ℕ) → ℕ → Type 0
AreSmall c n = (p q : ℕ) → p < q → q ≤ n → c p q < 2 ^ 40

-- two runs of n places that overlap cost together no more than the run round both and the run within both
abbrev pub MeetQuadrangle : (ℕ → ℕ → ℕ) → ℕ → Type 0
MeetQuadrangle c n = (i j k l : ℕ) → i ≤ j → j < k → k ≤ l → l ≤ n → c i k + c j l ≤ c i l + c j k

-- the runs of n places cost as much by the one as by the other
abbrev pub CostTheSame : (ℕ → ℕ → ℕ) → (ℕ → ℕ → ℕ) → ℕ → Type 0
CostTheSame c d n = (p q : ℕ) → p < q → q ≤ n → c p q ≡ d p q
