-- The cost of a run: by its first literal it is that by its true shortest, it stays small, and it meets the quadrangle
-- inequality.
use Rattle.std.proofs.Common.{◌≡◌, ℕ, suc, ◌+◌, ◌-◌, ◌*◌, ◌^◌, ◌<◌, ◌≤◌, min, List, [], ◌∷◌, length, get_or, take, drop, refl, sym, ap, ◌∙◌, arith}
use Rattle.std.specs.Prelude.{All}
use Rattle.std.specs.List.{fold}
use Rattle.std.specs.List.Sorted.{IsNonDecreasing}
use Rattle.std.proofs.lemmas.List.{drop_more, length-take-le, length-drop, get_or-take, get_or-drop}
use Rattle.std.proofs.lemmas.List.Elements.{All-head, All-tail, All-from_get_or}
use Rattle.lit_base.specs.Costs.{weight, cost, group_cost, run_cost, true_run_cost}
use Rattle.lit_base.specs.Cuts.{CutsFrom, cut_price}
use Rattle.lit_base.proofs.Cuts.{cuts-le}
use Rattle.lit_base.proofs.Weights.{weight-falls, cost-is, cost-lt}

-- what the cost of a run is
pub run_cost-is : (ls : List ℕ) (p q : ℕ) → run_cost ls p q ≡ 200 + weight (get_or ls p 0) * ((q - p) * (q - p))
unfolding run_cost
run_cost-is ls p q = cost-is (q - p) (get_or ls p 0)

-- the cost of as many literals as the run has, the shortest as long as its first
pub cost-run : (ls : List ℕ) (p q s m : ℕ) → s ≡ q - p → m ≡ get_or ls p 0 → cost s m ≡ run_cost ls p q
unfolding run_cost
cost-run ls p q s m count shortest = rw (count, shortest) refl

-- the cost of a run of up to 4096 literals
pub run_cost-lt : (ls : List ℕ) (p q : ℕ) → q ≤ 4096 → run_cost ls p q < 2 ^ 40
unfolding run_cost
run_cost-lt ls p q few = omega (arith, cost-lt (q - p) (get_or ls p 0) (omega arith))

-- a number that is above none of a list is its least together with the list
fold-min : (m : ℕ) (xs : List ℕ) → All (λ x. m ≤ x) xs → fold min m xs ≡ m
fold-min m [] all = refl
fold-min m (x ∷ xs) all =
    let least : min m x ≡ m = omega (arith, All-head (λ y. m ≤ y) x xs all) in
    rw least (fold-min m xs (All-tail (λ y. m ≤ y) x xs all))

-- a group that begins with its shortest
group_cost-first : (m : ℕ) (xs : List ℕ) → All (λ x. m ≤ x) xs → group_cost (m ∷ xs) ≡ cost (suc (length xs)) m
group_cost-first m xs all = ap (cost (suc (length xs))) (fold-min m xs all)

-- the literals stand by length: the cost by a run's first literal is that by its true shortest
pub run_cost-true : (ls : List ℕ) (p q : ℕ) → IsNonDecreasing ls → p < q → q ≤ length ls → run_cost ls p q ≡ true_run_cost ls p q
unfolding run_cost true_run_cost
run_cost-true ls p q rising some within =
    let first = get_or ls p 0 in
    let rest = take (q - (p + 1)) (drop (p + 1) ls) in
    let size : q - p ≡ suc (q - (p + 1)) = omega arith in
    let whole : take (q - p) (drop p ls) ≡ first ∷ rest = rw (size, drop_more ls p 0 (omega arith)) refl in
    let count : length rest ≡ q - (p + 1) = length-take-le (q - (p + 1)) (drop (p + 1) ls) (omega (arith, length-drop (p + 1) ls)) in
    let at : (i : ℕ) → i < length rest → get_or rest i 0 ≡ get_or ls (p + 1 + i) 0 =
    λ i h. get_or-take (q - (p + 1)) (drop (p + 1) ls) i 0 (omega (arith, count)) ∙ get_or-drop (p + 1) ls i 0 in
    let shortest : All (λ x. first ≤ x) rest =
    All-from_get_or (λ x. first ≤ x) rest 0 (λ i h. omega (arith, at i h, count, rising p (p + 1 + i) 0 (omega arith) (omega (arith, count)))) in
    ap (λ k. cost k first) (omega (arith, count)) ∙ (sym (group_cost-first first rest shortest) ∙ ap group_cost (sym whole))

-- four products of weights and squares, for a weight w and a greater one w + e
four_points : (w e x y z : ℕ) → (w + e) * ((x + y) * (x + y)) + w * ((y + z) * (y + z)) ≤ (w + e) * ((x + y + z) * (x + y + z)) + w * (y * y)
four_points w e x y z = omega arith

-- two runs that overlap cost no more than the one round both and the one within both
pub quadrangle : (ls : List ℕ) (a b c d : ℕ) → IsNonDecreasing ls → a ≤ b → b < c → c ≤ d → d ≤ length ls → run_cost ls a c + run_cost ls b d ≤ run_cost ls a d + run_cost ls b c
quadrangle ls a b c d rising ab bc cd within =
    let w = weight (get_or ls b 0) in
    let falls = weight-falls (get_or ls a 0) (get_or ls b 0) (rising a b 0 ab (omega arith)) in
    let greater : w + (weight (get_or ls a 0) - w) ≡ weight (get_or ls a 0) = omega (arith, falls) in
    let ac : (b - a) + (c - b) ≡ c - a = omega arith in
    let bd : (c - b) + (d - c) ≡ d - b = omega arith in
    let ad : (c - a) + (d - c) ≡ d - a = omega arith in
    let points = rw (greater, ac, bd, ad) at (four_points w (weight (get_or ls a 0) - w) (b - a) (c - b) (d - c)) in
    omega (arith, points, run_cost-is ls a c, run_cost-is ls b d, run_cost-is ls a d, run_cost-is ls b c)

-- the price of a cut by the first literals of its runs is that by their true shortest
pub cut_price-true : (ls : List ℕ) (n p : ℕ) (ends : List ℕ) → IsNonDecreasing ls → n ≤ length ls → CutsFrom n p ends → cut_price (run_cost ls) p ends ≡ cut_price (true_run_cost ls) p ends
cut_price-true ls n p [] rising within cuts = refl
cut_price-true ls n p (end ∷ ends) rising within cuts =
    let here = run_cost-true ls p end rising cuts.0 (omega (arith, cuts-le n end ends cuts.1)) in
    let rest = cut_price-true ls n end ends rising within cuts.1 in
    rw (here, rest) refl
