-- The buckets of an assignment, literal by literal, and the sum of their costs, bucket by bucket.
use Rattle.std.proofs.Common.{◌≡◌, ◌≢◌, ℕ, zero, suc, ◌+◌, ◌-◌, ◌<◌, ◌≤◌, min, List, ◌∷◌, length, get_or, drop, refl, sym, ap, ◌∙◌, subst, arith}
use Rattle.std.specs.List.{fold, sum_by, range_with_len}
use Rattle.std.proofs.lemmas.Bool.{eq-eqb, ne_eqb}
use Rattle.std.proofs.lemmas.List.{drop_more}
use Rattle.std.proofs.lemmas.List.Sums.{sum_by-cons}
use Rattle.lit_base.specs.Costs.{cost, group_cost}
use Rattle.lit_base.specs.Assignments.{bucket}

-- the cost of a group of `count` literals whose shortest has `shortest` bytes, together with the rest
abbrev pub joined_cost : ℕ → ℕ → List ℕ → ℕ
joined_cost zero shortest rest = group_cost rest
joined_cost (suc count) shortest rest = cost (suc count + length rest) (fold min shortest rest)

-- a bucket from place i on begins with the literal at i if that is its own
pub bucket_own : (b : ℕ) (ls ns : List ℕ) (i : ℕ) → i < length ls → i < length ns → get_or ns i 0 ≡ b → bucket b (drop i ls) (drop i ns) ≡ get_or ls i 0 ∷ bucket b (drop (i + 1) ls) (drop (i + 1) ns)
bucket_own b ls ns i hl hn own =
    rw (drop_more ls i 0 hl, drop_more ns i 0 hn, eq-eqb (get_or ns i 0) b own)

-- and passes the literal over if it is another's
pub bucket_other : (b : ℕ) (ls ns : List ℕ) (i : ℕ) → i < length ls → i < length ns → get_or ns i 0 ≢ b → bucket b (drop i ls) (drop i ns) ≡ bucket b (drop (i + 1) ls) (drop (i + 1) ns)
bucket_other b ls ns i hl hn other =
    rw (drop_more ls i 0 hl, drop_more ns i 0 hn, ne_eqb (get_or ns i 0) b other)

-- one literal more of the group: `shortest` is any number until there is one
pub joined_cost_more : (count shortest m : ℕ) (rest : List ℕ) → (count ≡ 0 → m ≤ shortest) → joined_cost count shortest (m ∷ rest) ≡ joined_cost (count + 1) (min shortest m) rest
joined_cost_more zero shortest m rest first =
    let one : 1 + length rest ≡ suc (length rest) = omega arith in
    let least : min shortest m ≡ m = omega (arith, first refl) in
    rw (one, least)
joined_cost_more (suc count) shortest m rest first =
    let more : suc count + 1 ≡ suc (suc count) = omega arith in
    let size : suc count + suc (length rest) ≡ suc (suc count) + length rest = omega arith in
    rw (more, size)

-- what a loop over the literals keeps, at one of the bucket's own
pub joined_own : (b : ℕ) (ls ns : List ℕ) (i count shortest m whole : ℕ) → i < length ls → i < length ns → get_or ns i 0 ≡ b → m ≡ get_or ls i 0 → (count ≡ 0 → m ≤ shortest) → joined_cost count shortest (bucket b (drop i ls) (drop i ns)) ≡ whole → joined_cost (count + 1) (min shortest m) (bucket b (drop (i + 1) ls) (drop (i + 1) ns)) ≡ whole
joined_own b ls ns i count shortest m whole hl hn own at first so =
    let rest = bucket b (drop (i + 1) ls) (drop (i + 1) ns) in
    let split = subst (λ l. bucket b (drop i ls) (drop i ns) ≡ l ∷ rest) (sym at) (bucket_own b ls ns i hl hn own) in
    sym (joined_cost_more count shortest m rest first) ∙ (ap (joined_cost count shortest) (sym split) ∙ so)

-- and at another's
pub joined_other : (b : ℕ) (ls ns : List ℕ) (i count shortest whole : ℕ) → i < length ls → i < length ns → get_or ns i 0 ≢ b → joined_cost count shortest (bucket b (drop i ls) (drop i ns)) ≡ whole → joined_cost count shortest (bucket b (drop (i + 1) ls) (drop (i + 1) ns)) ≡ whole
joined_other b ls ns i count shortest whole hl hn other so =
    ap (joined_cost count shortest) (sym (bucket_other b ls ns i hl hn other)) ∙ so

-- the price so far of the buckets below i, and the price of the others, make up the whole
abbrev pub PriceSoFar : (ℕ → ℕ) → ℕ → ℕ → ℕ → Type 0
PriceSoFar f most i price = price + sum_by f (range_with_len i (most - i)) ≡ sum_by f (range_with_len 0 most)

-- the next bucket's cost is added
pub price_more : (f : ℕ → ℕ) (most i price : ℕ) → i < most → PriceSoFar f most i price → PriceSoFar f most (i + 1) (price + f i)
price_more f most i price within so =
    let more : most - i ≡ suc (most - (i + 1)) = omega arith in
    let split = subst (λ k. price + sum_by f (range_with_len i k) ≡ sum_by f (range_with_len 0 most)) more so in
    omega (arith, split, sum_by-cons f i (range_with_len (i + 1) (most - (i + 1))))

-- with no bucket left the price so far is the whole
pub price_all : (f : ℕ → ℕ) (most i price : ℕ) → most ≤ i → PriceSoFar f most i price → price ≡ sum_by f (range_with_len 0 most)
price_all f most i price h so =
    let none : most - i ≡ 0 = omega arith in
    let whole = subst (λ k. price + sum_by f (range_with_len i k) ≡ sum_by f (range_with_len 0 most)) none so in
    omega (arith, whole)
