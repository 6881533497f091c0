-- Potentials that bound from below: no cut and no assignment costs less than they say.
use Rattle.std.proofs.Common.{◌≡◌, ◌≢◌, ◌⊎◌, inl, inr, ℕ, zero, suc, ◌+◌, ◌-◌, ◌*◌, ◌<◌, ◌≤◌, min, Bool, true, false, List, [], ◌∷◌, length, get_or, refl, sym, ap, ◌∙◌, subst, arith}
use Rattle.std.specs.Prelude.{if◌then◌else◌, ◌==◌, All}
use Rattle.std.specs.List.{fold, sum_by, range_with_len}
use Rattle.std.specs.List.Sorted.{IsNonDecreasing}
use Rattle.std.proofs.lemmas.Bool.{eq-eqb, ne_eqb, cases_lt, cases_eq, cases_Bool, false≢true}
use Rattle.std.proofs.lemmas.List.FromFn.{length-range_with_len}
use Rattle.std.proofs.lemmas.List.Elements.{All-head, All-tail}
use Rattle.std.proofs.lemmas.List.Sums.{sum_by-cons}
use Rattle.lit_base.specs.Costs.{cost, group_cost, run_cost}
use Rattle.lit_base.specs.Cuts.{CutsFrom, IsCut, cut_price}
use Rattle.lit_base.specs.Assignments.{IsAssignment, bucket, assign_price}
use Rattle.lit_base.specs.Potentials.{BoundsBelow, potential}
use Rattle.lit_base.proofs.Cuts.{cuts-le}
use Rattle.lit_base.proofs.Weights.{cost-falls}

-- no cut from p on costs less than the potential there
pub cut_bounded : (c h : ℕ → ℕ → ℕ) (most n : ℕ) → BoundsBelow c h most n → (r p : ℕ) (ends : List ℕ) → CutsFrom n p ends → length ends ≤ r → r ≤ most → p < n → h r p ≤ cut_price c p ends
cut_bounded c h most n bounds r p [] cuts few within some = absurd (omega (arith, cuts))
cut_bounded c h most n bounds r p (end ∷ []) cuts few within some =
    let last : c p end ≡ c p n = ap (c p) cuts.1 in
    omega (arith, last, bounds.ends r p (omega arith) within some)
cut_bounded c h most n bounds zero p (end ∷ next ∷ ends) cuts few within some = absurd (omega arith)
cut_bounded c h most n bounds (suc r) p (end ∷ next ∷ ends) cuts few within some =
    let inner : end < n = omega (arith, cuts.1.0, cuts-le n next ends cuts.1.1) in
    let rest = cut_bounded c h most n bounds r end (next ∷ ends) cuts.1 (omega arith) (omega arith) inner in
    let fewer : suc r - 1 ≡ r = omega arith in
    let step = subst (λ k. h (suc r) p ≤ c p end + h k end) fewer (bounds.steps (suc r) p end (omega arith) within cuts.0 inner) in
    omega (arith, step, rest)

-- whether a number is one of the buckets
abbrev is_in : ℕ → List ℕ → Bool
is_in k [] = false
is_in k (b ∷ bs) = if b == k then true else is_in k bs

-- how many literals lie in none of the buckets
abbrev outside : List ℕ → List ℕ → ℕ
outside bs [] = 0
outside bs (k ∷ ks) = if is_in k bs then outside bs ks else suc (outside bs ks)

-- the buckets without one
abbrev without : ℕ → List ℕ → List ℕ
without b [] = []
without b (k ∷ ks) = if k == b then without b ks else k ∷ without b ks

-- the one left out is none of the rest
is_in-without_same : (b : ℕ) (bs : List ℕ) → is_in b (without b bs) ≡ false
is_in-without_same b [] = refl
is_in-without_same b (k ∷ ks) =
    elim (cases_eq k b) [
      | inl same ↦ rw (eq-eqb k b same) (is_in-without_same b ks)
      | inr other ↦ rw (ne_eqb k b other, ne_eqb k b other) (is_in-without_same b ks)
    ]

-- every other one stays
is_in-without_other : (b k : ℕ) (bs : List ℕ) → k ≢ b → is_in k (without b bs) ≡ is_in k bs
is_in-without_other b k [] other = refl
is_in-without_other b k (a ∷ rest) other =
    elim (cases_eq a b) [
      | inl same ↦
          let apart : a ≢ k = λ e. other (sym e ∙ same) in
          rw (eq-eqb a b same, ne_eqb a k apart) (is_in-without_other b k rest other)
      | inr apart ↦ rw (ne_eqb a b apart) (ap (λ t. if a == k then true else t) (is_in-without_other b k rest other))
    ]

-- a sum without one bucket is no greater
sum_by-without : (f : ℕ → ℕ) (b : ℕ) (bs : List ℕ) → sum_by f (without b bs) ≤ sum_by f bs
sum_by-without f b [] = omega arith
sum_by-without f b (k ∷ ks) =
    elim (cases_eq k b) [
      | inl same ↦ rw (eq-eqb k b same) (omega (arith, sum_by-cons f k ks, sum_by-without f b ks))
      | inr other ↦ rw (ne_eqb k b other) (omega (arith, sum_by-cons f k ks, sum_by-cons f k (without b ks), sum_by-without f b ks))
    ]

-- and where it is one of them, less by at least its own part
sum_by-without_in : (f : ℕ → ℕ) (b : ℕ) (bs : List ℕ) → is_in b bs ≡ true → f b + sum_by f (without b bs) ≤ sum_by f bs
sum_by-without_in f b [] has = absurd (false≢true has)
sum_by-without_in f b (k ∷ ks) has =
    elim (cases_eq k b) [
      | inl same ↦ rw (eq-eqb k b same) (omega (arith, ap f same, sum_by-cons f k ks, sum_by-without f b ks))
      | inr other ↦
          let later = rw (ne_eqb k b other) at has in
          rw (ne_eqb k b other) (omega (arith, sum_by-cons f k ks, sum_by-cons f k (without b ks), sum_by-without_in f b ks later))
    ]

-- without one bucket there are no more
length-without : (b : ℕ) (bs : List ℕ) → length (without b bs) ≤ length bs
length-without b [] = omega arith
length-without b (k ∷ ks) =
    elim (cases_eq k b) [
      | inl same ↦ rw (eq-eqb k b same) (omega (arith, length-without b ks))
      | inr other ↦ rw (ne_eqb k b other) (omega (arith, length-without b ks))
    ]

-- and fewer where it is one of them
length-without_in : (b : ℕ) (bs : List ℕ) → is_in b bs ≡ true → length (without b bs) < length bs
length-without_in b [] has = absurd (false≢true has)
length-without_in b (k ∷ ks) has =
    elim (cases_eq k b) [
      | inl same ↦ rw (eq-eqb k b same) (omega (arith, length-without b ks))
      | inr other ↦
          let later = rw (ne_eqb k b other) at has in
          rw (ne_eqb k b other) (omega (arith, length-without_in b ks later))
    ]

-- of no buckets all literals lie outside
outside-nil : (ns : List ℕ) → outside [] ns ≡ length ns
outside-nil [] = refl
outside-nil (k ∷ ks) = ap suc (outside-nil ks)

-- where not all do there is a bucket
outside_some : (bs ns : List ℕ) → outside bs ns < length ns → 0 < length bs
outside_some [] ns some = absurd (omega (arith, outside-nil ns, some))
outside_some (b ∷ bs) ns some = omega arith

-- and never do more than all
outside-le : (bs ns : List ℕ) → outside bs ns ≤ length ns
outside-le bs [] = omega arith
outside-le bs (k ∷ ks) =
    elim (cases_Bool (is_in k bs)) [
      | inl has ↦ rw has (omega (arith, outside-le bs ks))
      | inr lacks ↦ rw lacks (omega (arith, outside-le bs ks))
    ]

-- without one bucket its literals lie outside too
outside-without : (b : ℕ) (bs ls ns : List ℕ) → length ls ≡ length ns → is_in b bs ≡ true → outside (without b bs) ns ≡ outside bs ns + length (bucket b ls ns)
outside-without b bs [] [] sizes has = refl
outside-without b bs [] (k ∷ ks) sizes has = absurd (omega (arith, sizes))
outside-without b bs (m ∷ ms) [] sizes has = absurd (omega (arith, sizes))
outside-without b bs (m ∷ ms) (k ∷ ks) sizes has =
    let rest = outside-without b bs ms ks (omega (arith, sizes)) has in
    elim (cases_eq k b) [
      | inl same ↦
          let gone : is_in k (without b bs) ≡ false = rw same (is_in-without_same b bs) in
          let was : is_in k bs ≡ true = rw same has in
          rw (gone, was, eq-eqb k b same) (omega (arith, rest))
      | inr other ↦
          elim (cases_Bool (is_in k bs)) [
            | inl was ↦
                let stays : is_in k (without b bs) ≡ true = is_in-without_other b k bs other ∙ was in
                rw (stays, was, ne_eqb k b other) rest
            | inr lacks ↦
                let still : is_in k (without b bs) ≡ false = is_in-without_other b k bs other ∙ lacks in
                rw (still, lacks, ne_eqb k b other) (omega (arith, rest))
          ]
    ]

-- a literal of the buckets before which all lie outside
abbrev FirstInside : List ℕ → List ℕ → Type 0
FirstInside bs ns = (k : ℕ) × (k < length ns) × (k ≤ outside bs ns) × (is_in (get_or ns k 0) bs ≡ true)

-- where not all literals lie outside there is one
first_inside : (bs ns : List ℕ) → outside bs ns < length ns → FirstInside bs ns
first_inside bs [] few = absurd (omega (arith, few))
first_inside bs (b ∷ ns) few =
    elim (cases_Bool (is_in b bs)) [
      | inl has ↦ (0, omega arith, omega arith, has)
      | inr lacks ↦
          let more : outside bs (b ∷ ns) ≡ suc (outside bs ns) = rw lacks refl in
          let later = first_inside bs ns (omega (arith, more, few)) in
          (suc later.0, omega (arith, later.1), omega (arith, more, later.2), later.3)
    ]

-- some number of the list is at most v
abbrev SomeBelow : ℕ → List ℕ → Type 0
SomeBelow v [] = ⊥
SomeBelow v (x ∷ xs) = (x ≤ v) ⊎ SomeBelow v xs

-- a bucket has a literal of its own
bucket_some : (b v : ℕ) (ls ns : List ℕ) (k : ℕ) → length ls ≡ length ns → k < length ns → get_or ns k 0 ≡ b → get_or ls k 0 ≤ v → SomeBelow v (bucket b ls ns)
bucket_some b v ls [] k sizes within own below = absurd (omega (arith, within))
bucket_some b v [] (c ∷ ns) k sizes within own below = absurd (omega (arith, sizes))
bucket_some b v (m ∷ ms) (c ∷ ns) zero sizes within own below = rw (eq-eqb c b own) (inl below)
bucket_some b v (m ∷ ms) (c ∷ ns) (suc k) sizes within own below =
    let later = bucket_some b v ms ns k (omega (arith, sizes)) (omega (arith, within)) own below in
    elim (cases_eq c b) [
      | inl same ↦ rw (eq-eqb c b same) (inr later)
      | inr other ↦ rw (ne_eqb c b other) later
    ]

-- the least of a list is below what some number of it is below
fold-min_below : (v m : ℕ) (ms : List ℕ) → SomeBelow v (m ∷ ms) → fold min m ms ≤ v
fold-min_below v m [] some = elim some [ inl here ↦ here | inr none ↦ absurd none ]
fold-min_below v m (x ∷ xs) some =
    fold-min_below v (min m x) xs (elim some [
      | inl first ↦ inl (omega (arith, first))
      | inr rest ↦ elim rest [ inl second ↦ inl (omega (arith, second)) | inr later ↦ inr later ]
    ])

-- a group with a literal of at most v bytes is not empty, and costs at least as much as a group of its size whose
-- shortest has v
group_cost-ge : (v : ℕ) (xs : List ℕ) → SomeBelow v xs → (0 < length xs) × (cost (length xs) v ≤ group_cost xs)
group_cost-ge v [] some = absurd some
group_cost-ge v (m ∷ ms) some =
    (omega arith, cost-falls (suc (length ms)) (fold min m ms) v (fold-min_below v m ms some))

-- each bucket's number is one of all
is_in-range : (b i k : ℕ) → i ≤ b → b < i + k → is_in b (range_with_len i k) ≡ true
is_in-range b i zero low high = absurd (omega arith)
is_in-range b i (suc k) low high =
    elim (cases_eq i b) [
      | inl same ↦ rw (eq-eqb i b same) refl
      | inr other ↦ rw (ne_eqb i b other) (is_in-range b (i + 1) k (omega arith) (omega arith))
    ]

-- outside all buckets lies none
outside-all : (most : ℕ) (ns : List ℕ) → All (λ b. b < most) ns → outside (range_with_len 0 most) ns ≡ 0
outside-all most [] below = refl
outside-all most (b ∷ ns) below =
    let has = is_in-range b 0 most (omega arith) (omega (arith, All-head (λ k. k < most) b ns below)) in
    rw has (outside-all most ns (All-tail (λ k. k < most) b ns below))

-- for literals that stand by length, an assignment, and potentials that bound from below
module _ (ls ns : List ℕ) (h : ℕ → ℕ → ℕ) (most : ℕ) (rising : IsNonDecreasing ls) (sizes : length ls ≡ length ns) (bounds : BoundsBelow (run_cost ls) h most (length ls)) where
  -- what the literals of a bucket cost
  bucket_price : ℕ → ℕ
  bucket_price b = group_cost (bucket b ls ns)

  -- a bucket with a literal at or before place p costs at least as much as the run of as many literals from p on
  bucket_price-ge : (k p : ℕ) → k < length ns → k ≤ p → p < length ls → (0 < length (bucket (get_or ns k 0) ls ns)) × (run_cost ls p (p + length (bucket (get_or ns k 0) ls ns)) ≤ bucket_price (get_or ns k 0))
  unfolding bucket_price run_cost
  bucket_price-ge k p within before inner =
      let b = get_or ns k 0 in
      let v = get_or ls p 0 in
      let group = group_cost-ge v (bucket b ls ns) (bucket_some b v ls ns k sizes within refl (rising k p 0 before inner)) in
      let size : p + length (bucket b ls ns) - p ≡ length (bucket b ls ns) = omega arith in
      (group.0, rw size group.1)

  -- the same for one bucket more, where k is the first place of a literal in one of them
  bound_more : (r : ℕ) (bs : List ℕ) (k : ℕ) → k < length ns → k ≤ outside bs ns → is_in (get_or ns k 0) bs ≡ true → length bs ≤ suc r → suc r ≤ most → outside bs ns < length ls → ((left : List ℕ) → length left ≤ r → outside left ns < length ls → h r (outside left ns) ≤ sum_by bucket_price left) → h (suc r) (outside bs ns) ≤ sum_by bucket_price bs
  bound_more r bs k within before has few allowed some fewer =
      let p = outside bs ns in
      let b = get_or ns k 0 in
      let left = without b bs in
      let next : outside left ns ≡ p + length (bucket b ls ns) = outside-without b bs ls ns sizes has in
      let own = bucket_price-ge k p within before some in
      let run : run_cost ls p (outside left ns) ≤ bucket_price b = subst (λ q. run_cost ls p q ≤ bucket_price b) (sym next) own.1 in
      let price = sum_by-without_in bucket_price b bs has in
      let less = length-without_in b bs has in
      elim (cases_lt (outside left ns) (length ls)) [
        | inl inner ↦
            let rest = fewer left (omega (arith, less)) inner in
            let buckets = outside_some left ns (omega (arith, inner, sizes)) in
            let one : suc r - 1 ≡ r = omega arith in
            let step = subst (λ j. h (suc r) p ≤ run_cost ls p (outside left ns) + h j (outside left ns)) one (bounds.steps (suc r) p (outside left ns) (omega (arith, buckets, less)) allowed (omega (arith, next, own.0)) inner) in
            omega (arith, step, rest, run, price)
        | inr last ↦
            let all : outside left ns ≡ length ls = omega (arith, last, outside-le left ns, sizes) in
            let end = bounds.ends (suc r) p (omega arith) allowed some in
            omega (arith, end, subst (λ q. run_cost ls p q ≤ bucket_price b) all run, price)
      ]

  -- at most r buckets cost at least the potential after the literals outside them
  bound : (r : ℕ) (bs : List ℕ) → length bs ≤ r → r ≤ most → outside bs ns < length ls → h r (outside bs ns) ≤ sum_by bucket_price bs
  bound zero [] few allowed some = absurd (omega (arith, outside-nil ns, sizes, some))
  bound zero (b ∷ bs) few allowed some = absurd (omega (arith, few))
  bound (suc r) bs few allowed some =
      let first = first_inside bs ns (omega (arith, some, sizes)) in
      bound_more r bs first.0 first.1 first.2 first.3 few allowed some (λ left short inner. bound r left short (omega (arith, allowed)) inner)

  -- no assignment of at least one literal costs less than the potential of all of them
  pub assignment_bounded : 0 < length ls → All (λ b. b < most) ns → h most 0 ≤ assign_price most ls ns
  unfolding assign_price bucket_price
  assignment_bounded some below =
      let none = outside-all most ns below in
      let whole = bound most (range_with_len 0 most) (omega (arith, length-range_with_len 0 most)) (omega arith) (omega (arith, none, some)) in
      subst (λ p. h most p ≤ sum_by bucket_price (range_with_len 0 most)) none whole

-- after the last literal the potential is 0
pub potential-end : (hs : List ℕ) (n r p : ℕ) → p ≡ n → potential hs n r p ≡ 0
unfolding potential
potential-end hs n r p end = rw (eq-eqb p n end) refl

-- before it the potential is the number in the list
pub potential-inner : (hs : List ℕ) (n r p : ℕ) → p < n → potential hs n r p ≡ get_or hs ((r - 1) * n + p) 0
unfolding potential
potential-inner hs n r p inner = let apart : p ≢ n = omega arith in rw (ne_eqb p n apart) refl

-- no assignment costs less than the potential of all n literals
pub least_assignment : (ls hs : List ℕ) (most n : ℕ) → IsNonDecreasing ls → length ls ≡ n → BoundsBelow (run_cost ls) (potential hs n) most n → (ns : List ℕ) → IsAssignment most n ns → potential hs n most 0 ≤ assign_price most ls ns
least_assignment ls hs most n rising size bounds ns assignment =
    elim (cases_eq 0 n) [
      | inl none ↦ omega (arith, potential-end hs n most 0 none)
      | inr some ↦
          let sizes : length ls ≡ length ns = omega (arith, size, assignment.size) in
          let bounded = subst (λ k. BoundsBelow (run_cost ls) (potential hs n) most k) (sym size) bounds in
          let inner : 0 < length ls = omega (arith, size, some) in
          assignment_bounded ls ns (potential hs n) most rising sizes bounded inner assignment.below
    ]

-- and no cut does
pub least_cut : (c : ℕ → ℕ → ℕ) (hs : List ℕ) (most n : ℕ) → BoundsBelow c (potential hs n) most n → (ends : List ℕ) → IsCut most n ends → potential hs n most 0 ≤ cut_price c 0 ends
least_cut c hs most n bounds ends cut = cut_bounded c (potential hs n) most n bounds most 0 ends cut.cuts cut.few (omega arith) cut.some
