-- Weights and costs: they never rise with the shortest length, and stay small.
use Rattle.std.proofs.Common.{◌≡◌, ℕ, zero, suc, ◌+◌, ◌-◌, ◌*◌, ◌^◌, ◌<◌, ◌≤◌, List, [], ◌∷◌, get_or, refl, sym, arith}
use Rattle.std.proofs.lemmas.Nat.{mul-le}
use Rattle.std.proofs.lemmas.List.{get_or_default, get_or_past}
use Rattle.lit_base.specs.Costs.{weight, cost}

-- a list never rises, and d is not above its last element
abbrev Falls : List ℕ → ℕ → Type 0
Falls [] d = Unit {0}
Falls (x ∷ xs) d = (get_or xs 0 d ≤ x) × Falls xs d

-- a falling list, read with its d past the end, never rises from place to place
get_or-falls : (xs : List ℕ) (d i j : ℕ) → Falls xs d → i ≤ j → get_or xs j d ≤ get_or xs i d
get_or-falls [] d i j f h = omega arith
get_or-falls (x ∷ xs) d zero zero f h = omega arith
get_or-falls (x ∷ xs) d zero (suc j) f h = omega (arith, get_or-falls xs d 0 j f.1 (omega arith), f.0)
get_or-falls (x ∷ xs) d (suc i) zero f h = absurd (omega arith)
get_or-falls (x ∷ xs) d (suc i) (suc j) f h = get_or-falls xs d i j f.1 (omega arith)

-- the weight never rises with the shortest length
pub weight-falls : (m k : ℕ) → m ≤ k → weight k ≤ weight m
unfolding weight
weight-falls m k h =
    get_or-falls (4096 ∷ 512 ∷ 151 ∷ 64 ∷ 32 ∷ 18 ∷ 11 ∷ []) 8 (m - 1) (k - 1) (search arith) (omega arith)

-- no weight is above the weight of one byte
pub weight-le : (m : ℕ) → weight m ≤ 4096
unfolding weight
weight-le m =
    get_or-falls (4096 ∷ 512 ∷ 151 ∷ 64 ∷ 32 ∷ 18 ∷ 11 ∷ []) 8 0 (m - 1) (search arith) (omega arith)

-- what a cost is
pub cost-is : (s m : ℕ) → cost s m ≡ 200 + weight m * (s * s)
unfolding cost
cost-is s m = refl

-- the cost of as many literals never rises with the shortest length
pub cost-falls : (s m k : ℕ) → m ≤ k → cost s k ≤ cost s m
unfolding cost
cost-falls s m k h = omega (arith, mul-le (weight k) (s * s) (weight m) (s * s) (weight-falls m k h) (omega arith))

-- the cost of up to 4096 literals
pub cost-lt : (s m : ℕ) → s ≤ 4096 → cost s m < 2 ^ 37
unfolding cost
cost-lt s m h =
    let square = mul-le s s 4096 4096 h h in
    omega (arith, mul-le (weight m) (s * s) 4096 (4096 * 4096) (weight-le m) square)

-- within the table the weight is the entry there
pub weight-short : (m : ℕ) → 1 ≤ m → m ≤ 7 → get_or (4096 ∷ 512 ∷ 151 ∷ 64 ∷ 32 ∷ 18 ∷ 11 ∷ []) (m - 1) 0 ≡ weight m
unfolding weight
weight-short m low high = get_or_default (4096 ∷ 512 ∷ 151 ∷ 64 ∷ 32 ∷ 18 ∷ 11 ∷ []) (m - 1) 0 8 (omega arith)

-- past it the weight is 8
pub weight-long : (m : ℕ) → 8 ≤ m → 8 ≡ weight m
unfolding weight
weight-long m high = sym (get_or_past (4096 ∷ 512 ∷ 151 ∷ 64 ∷ 32 ∷ 18 ∷ 11 ∷ []) (m - 1) 8 (omega arith))
