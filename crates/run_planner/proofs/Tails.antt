-- Tail costs: of one run, and of one run more.
use Rattle.std.proofs.Common.{◌≡◌, inl, inr, ℕ, zero, suc, ◌+◌, ◌-◌, ◌*◌, ◌^◌, ◌<◌, ◌≤◌, List, [], ◌∷◌, ◌++◌, length, get_or, take, drop, All, refl, sym, ap, ◌∙◌, subst, arith}
use Rattle.std.specs.List.{slice_index}
use Rattle.std.proofs.lemmas.Bool.{cases_lt}
use Rattle.std.proofs.lemmas.List.{get_or-take, get_or-drop, get_or_past, get_or-append-add, length-drop, length-take-le}
use Rattle.std.proofs.lemmas.List.Elements.{All-from_get_or}
use Rattle.std.proofs.lemmas.Nat.{mul-le}
use Rattle.std.proofs.Math.ListN.{get_or-append}
use Rattle.lit_base.specs.Costs.{AreSmall}
use Rattle.lit_base.specs.Cuts.{CutsFrom, cut_price}
use Rattle.lit_base.specs.Potentials.{potential}
use Rattle.lit_base.proofs.Cuts.{cuts-le}
use Rattle.lit_base.proofs.Least.{potential-inner}
use Rattle.run_planner.specs.Splits.{IsLeastSplit}
use Rattle.run_planner.specs.TailCosts.{IsTailCost, AreTailCosts}

-- after the last place nothing remains, and costs nothing
pub tail_cost-end : (c : ℕ → ℕ → ℕ) (n r : ℕ) → IsTailCost c n r n 0
tail_cost-end c n r = record { reached = ([], refl, omega arith, refl); least = λ ends cuts few. omega arith }

-- no tail cost is above one run to the end
pub tail_cost-le : (c : ℕ → ℕ → ℕ) (n r p v : ℕ) → 1 ≤ r → p < n → IsTailCost c n r p v → v ≤ c p n
tail_cost-le c n r p v some inner tail = omega (arith, tail.least (n ∷ []) (inner, refl) some)

-- a cut into at most one run is the run to the end
one_run : (c : ℕ → ℕ → ℕ) (n p v : ℕ) (ends : List ℕ) → p < n → v ≡ c p n → CutsFrom n p ends → length ends ≤ 1 → v ≤ cut_price c p ends
one_run c n p v [] inner is cuts few = absurd (omega (arith, inner, cuts))
one_run c n p v (end ∷ []) inner is cuts few = let last = ap (c p) cuts.1 in omega (arith, is, last)
one_run c n p v (end ∷ next ∷ ends) inner is cuts few = absurd (omega (arith, few))

-- with one run, it is that run
pub tail_cost-one : (c : ℕ → ℕ → ℕ) (n p v : ℕ) → p < n → v ≡ c p n → IsTailCost c n 1 p v
tail_cost-one c n p v inner is = record {
  reached = (n ∷ [], (inner, refl), omega arith, omega (arith, is));
  least = λ ends cuts few. one_run c n p v ends inner is cuts few;
}

-- no cut costs less than the least split
split_least : (c : ℕ → ℕ → ℕ) (rest : ℕ → ℕ) (n r p v : ℕ) (ends : List ℕ) → ((q : ℕ) → q ≤ n → IsTailCost c n r q (rest q)) → IsLeastSplit c rest n p v → CutsFrom n p ends → length ends ≤ r + 1 → v ≤ cut_price c p ends
split_least c rest n r p v [] tails split cuts few = absurd (omega (arith, cuts, split.best.past, split.best.within))
split_least c rest n r p v (end ∷ ends) tails split cuts few =
    let within = cuts-le n end ends cuts.1 in
    omega (arith, split.value, split.best.least end cuts.0 within, (tails end within).least ends cuts.1 (omega (arith, few)))

-- the least split, by tail costs of r runs, is the tail cost of one run more
pub tail_cost-next : (c : ℕ → ℕ → ℕ) (rest : ℕ → ℕ) (n r p v : ℕ) → ((q : ℕ) → q ≤ n → IsTailCost c n r q (rest q)) → IsLeastSplit c rest n p v → IsTailCost c n (r + 1) p v
tail_cost-next c rest n r p v tails split =
    let tail = tails split.end split.best.within in
    let there = tail.reached in
    record {
      reached = (split.end ∷ there.0, (split.best.past, there.1), omega (arith, there.2), omega (arith, there.3, split.value));
      least = λ ends cuts few. split_least c rest n r p v ends tails split cuts few;
    }

-- a row of runs to the end has the tail costs of one run
pub first_row : (c : ℕ → ℕ → ℕ) (n : ℕ) (hs : List ℕ) → ((p : ℕ) → p < n → get_or hs p 0 ≡ c p n) → AreTailCosts c n 1 hs
first_row c n hs filled r p from_one within inner =
    let one : 1 ≡ r = omega (arith, from_one, within) in
    let first : (1 - 1) * n + p ≡ p = omega arith in
    let at = potential-inner hs n 1 p inner ∙ (ap (λ i. get_or hs i 0) first ∙ filled p inner) in
    subst (λ k. IsTailCost c n k p (potential hs n k p)) one (tail_cost-one c n p (potential hs n 1 p) inner at)

-- a row of its tail costs, read past its end as 0
pub row_tails : (c : ℕ → ℕ → ℕ) (n r : ℕ) (hs : List ℕ) → 1 ≤ r → AreTailCosts c n r hs → (q : ℕ) → q ≤ n → (v : ℕ) → (q < n → v ≡ potential hs n r q) → (q ≡ n → v ≡ 0) → IsTailCost c n r q v
row_tails c n r hs some tails q within v inner last = elim (cases_lt q n) [
  | inl h ↦ subst (λ w. IsTailCost c n r q w) (sym (inner h)) (tails r q some (omega arith) h)
  | inr h ↦
      let end : n ≡ q = omega (arith, h, within) in
      subst (λ w. IsTailCost c n r q w) (sym (last (sym end))) (subst (λ k. IsTailCost c n r k 0) end (tail_cost-end c n r))
]

-- where row r ends
pub row_end : (n r : ℕ) → 1 ≤ r → (r - 1) * n + n ≡ r * n
row_end n zero some = absurd (omega (arith, some))
row_end n (suc r) some = let one : suc r - 1 ≡ r = omega arith in rw one (omega arith)

-- an entry of the row after is the entry of row r
pub later_at : (n r q : ℕ) (rows done later : List ℕ) → 1 ≤ r → done ≡ take (r * n) rows → later ≡ drop ((r - 1) * n) done → q < n → get_or later q 0 ≡ potential rows n r q
later_at n r q rows done later some prefix back inner =
    let row : (r - 1) * n + n ≡ r * n = row_end n r some in
    let at : get_or later q 0 ≡ get_or done ((r - 1) * n + q) 0 = ap (λ l. get_or l q 0) back ∙ get_or-drop ((r - 1) * n) done q 0 in
    let before : get_or done ((r - 1) * n + q) 0 ≡ get_or rows ((r - 1) * n + q) 0 =
    ap (λ l. get_or l ((r - 1) * n + q) 0) prefix ∙ get_or-take (r * n) rows ((r - 1) * n + q) 0 (omega (arith, row, inner)) in
    at ∙ (before ∙ sym (potential-inner rows n r q inner))

-- and how many entries the row after has
pub later-length : (n r : ℕ) (rows done later : List ℕ) → 1 ≤ r → r * n ≤ length rows → done ≡ take (r * n) rows → later ≡ drop ((r - 1) * n) done → length later ≡ n
later-length n r rows done later some within prefix back =
    let row = row_end n r some in
    let size : length done ≡ r * n = ap length prefix ∙ length-take-le (r * n) rows within in
    omega (arith, row, size, ap length back, length-drop ((r - 1) * n) done)

-- what the row after holds are tail costs, at its end too
pub later_tails : (c : ℕ → ℕ → ℕ) (n r : ℕ) (rows done later : List ℕ) → 1 ≤ r → r * n ≤ length rows → done ≡ take (r * n) rows → later ≡ drop ((r - 1) * n) done → AreTailCosts c n r rows → (q : ℕ) → q ≤ n → IsTailCost c n r q (get_or later q 0)
later_tails c n r rows done later some within prefix back tails q inner =
    row_tails c n r rows some tails q inner (get_or later q 0) (later_at n r q rows done later some prefix back) (λ end. get_or_past later q 0 (omega (arith, end, later-length n r rows done later some within prefix back)))

-- so they are small
pub later-small : (c : ℕ → ℕ → ℕ) (n r : ℕ) (rows done later : List ℕ) → 1 ≤ r → r * n ≤ length rows → done ≡ take (r * n) rows → later ≡ drop ((r - 1) * n) done → AreTailCosts c n r rows → AreSmall c n → All (λ v. v < 2 ^ 40) later
later-small c n r rows done later some within prefix back tails small =
    let size = later-length n r rows done later some within prefix back in
    All-from_get_or (λ v. v < 2 ^ 40) later 0 (λ q h.
    let inner : q < n = omega (arith, h, size) in
    let tail = later_tails c n r rows done later some within prefix back tails q (omega arith) in
    omega (arith, small q n inner (omega arith), tail_cost-le c n r q (get_or later q 0) some inner tail))

-- one row more, each entry the least split by the row after
pub rows_next : (c : ℕ → ℕ → ℕ) (n r : ℕ) (rows done later rest : List ℕ) → 1 ≤ r → r * n ≤ length rows → done ≡ take (r * n) rows → later ≡ drop ((r - 1) * n) done → AreTailCosts c n r rows → ((p : ℕ) → p < n → IsLeastSplit c (slice_index later) n p (slice_index rest p)) → AreTailCosts c n (r + 1) (done ++ rest)
rows_next c n r rows done later rest some within prefix back tails filled s p from_one to inner =
    let size : length done ≡ r * n = ap length prefix ∙ length-take-le (r * n) rows within in
    let row : (s - 1) * n + n ≡ s * n = row_end n s from_one in
    elim (cases_lt r s) [
      | inl last ↦
          let here : s ≡ r + 1 = omega (arith, last, to) in
          let index : (s - 1) * n + p ≡ length done + p = omega (arith, size, row, ap (λ k. k * n) here) in
          let at : potential (done ++ rest) n s p ≡ get_or rest p 0 =
          potential-inner (done ++ rest) n s p inner ∙ (ap (λ i. get_or (done ++ rest) i 0) index ∙ get_or-append-add done rest p 0) in
          let next = tail_cost-next c (slice_index later) n r p (slice_index rest p) (later_tails c n r rows done later some within prefix back tails) (filled p inner) in
          subst (λ k. IsTailCost c n k p (potential (done ++ rest) n s p)) (sym here) (subst (λ v. IsTailCost c n (r + 1) p v) (sym at) next)
      | inr earlier ↦
          let below : (s - 1) * n + p < length done = omega (arith, size, row, inner, mul-le s n r n earlier (omega arith)) in
          let same : potential (done ++ rest) n s p ≡ potential rows n s p =
          potential-inner (done ++ rest) n s p inner ∙ (get_or-append done rest 0 ((s - 1) * n + p) below ∙ (ap (λ l. get_or l ((s - 1) * n + p) 0) prefix ∙ (get_or-take (r * n) rows ((s - 1) * n + p) 0 (omega (arith, below, size)) ∙ sym (potential-inner rows n s p inner)))) in
          subst (λ v. IsTailCost c n s p v) (sym same) (tails s p from_one earlier inner)
    ]

-- one more row, where there is one
pub times_more : (r w : ℕ) → 1 ≤ r → (r + 1 - 1) * w ≡ (r - 1) * w + w
times_more zero w some = absurd (omega (arith, some))
times_more (suc r) w some =
    let next : suc r + 1 - 1 ≡ suc r = omega arith in
    let one : suc r - 1 ≡ r = omega arith in
    rw (next, one) (omega arith)
