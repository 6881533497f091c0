-- Inserting a literal where it belongs: order, members and length.
use Rattle.std.proofs.Common.{◌≡◌, ℕ, ◌+◌, ◌≤◌, List, [], ◌∷◌, length, sum_by, Ordering, ◌⊎◌, inl, inr, refl, sym, ap, ◌∙◌, arith}
use Rattle.std.specs.declared.cmp.Ordering.TheVariants.{Less, Equal, Greater}
use Rattle.std.specs.Ordering.{match_ordering, ordering_reverse, ordering_then, nat_cmp, is_eq}
use Rattle.std.specs.BTreeSet.{insert_key}
use Rattle.std.specs.Cmp.{IsTotalOrder, then_total, on_total, nat_cmp_total}
use Rattle.std.specs.Cmp.Lexicographic.{slice_cmp}
use Rattle.std.proofs.lemmas.Cmp.{nat_list_cmp_total}
use Rattle.std.specs.List.{AllByRecursion}
use Rattle.std.specs.List.Sorted.{IsStrictlySortedBy}
use Rattle.std.proofs.lemmas.List.Elements.{recursion_from_All, All-from_recursion}
use Rattle.std.proofs.lemmas.List.Sums.{sum_by-cons}
use Rattle.std.proofs.lemmas.Map.Views.{All-insert_key}
use Rattle.std.proofs.lemmas.Map.Text.{is_eq-slice_cmp}
use Rattle.std.proofs.lemmas.Slice.Eq.{bytes_eq-Decides}
use Rattle.lit_base.specs.Literals.{literal_cmp}
use Rattle.lit_base.proofs.Members.{In}

-- the order of literals is total
pub literal_total : IsTotalOrder literal_cmp
literal_total = then_total (on_total length nat_cmp_total) nat_list_cmp_total

-- where two comparisons in a row tie, the second does
second_ties : (a b : Ordering) → ordering_then a b ≡ Equal → b ≡ Equal
second_ties Less b e = (cc)
second_ties Equal b e = e
second_ties Greater b e = (cc)

-- literals that tie are the same
pub same_from_tie : (a b : List ℕ) → literal_cmp a b ≡ Equal → a ≡ b
same_from_tie a b e =
    let bytes : slice_cmp nat_cmp a b ≡ Equal = second_ties (nat_cmp (length a) (length b)) (slice_cmp nat_cmp a b) e in
    (bytes_eq-Decides a b).0 (sym (is_eq-slice_cmp a b) ∙ ap is_eq bytes)

-- a text above another has the other below it
below_from_above : (a b : List ℕ) → literal_cmp a b ≡ Greater → literal_cmp b a ≡ Less
below_from_above a b e = literal_total.antisymm b a ∙ ap ordering_reverse e

-- all that follow x are above k, where x is
pub all_above : (k x : List ℕ) (xs : List (List ℕ)) → literal_cmp k x ≡ Less → AllByRecursion (λ y. literal_cmp x y ≡ Less) xs → AllByRecursion (λ y. literal_cmp k y ≡ Less) xs
all_above k x [] h all = all
all_above k x (y ∷ ys) h all = (literal_total.trans k x y h all.0, all_above k x ys h all.1)

-- inserting keeps the order
pub rising-insert : (xs : List (List ℕ)) (k : List ℕ) → IsStrictlySortedBy literal_cmp xs → IsStrictlySortedBy literal_cmp (insert_key literal_cmp xs k)
unfolding IsStrictlySortedBy
rising-insert [] k h = (tt, tt)
rising-insert (x ∷ xs) k h = by (rising-insert xs k h.1) (literal_cmp k x) refl
  where
    by : IsStrictlySortedBy literal_cmp (insert_key literal_cmp xs k) → (r : Ordering) → literal_cmp k x ≡ r → IsStrictlySortedBy literal_cmp (match_ordering r (k ∷ x ∷ xs) (x ∷ xs) (x ∷ insert_key literal_cmp xs k))
    by rest Less e = ((e, all_above k x xs e h.0), h)
    by rest Equal e = h
    by rest Greater e = (
      recursion_from_All (λ y. literal_cmp x y ≡ Less) (insert_key literal_cmp xs k)
          (All-insert_key literal_cmp k (λ y. literal_cmp x y ≡ Less) xs (All-from_recursion (λ y. literal_cmp x y ≡ Less) xs h.0) (below_from_above k x e)),
      rest,
    )

-- an element of the grown list is one of the old or the new one
pub in_insert_cases : (t : List ℕ) (xs : List (List ℕ)) (k : List ℕ) → In t (insert_key literal_cmp xs k) → In t xs ⊎ (k ≡ t)
in_insert_cases t [] k (inl e) = inr e
in_insert_cases t [] k (inr h) = absurd h
in_insert_cases t (x ∷ xs) k h = by (in_insert_cases t xs k) (literal_cmp k x) h
  where
    by : (In t (insert_key literal_cmp xs k) → In t xs ⊎ (k ≡ t)) → (r : Ordering) → In t (match_ordering r (k ∷ x ∷ xs) (x ∷ xs) (x ∷ insert_key literal_cmp xs k)) → In t (x ∷ xs) ⊎ (k ≡ t)
    by rest Less (inl e) = inr e
    by rest Less (inr old) = inl old
    by rest Equal old = inl old
    by rest Greater (inl e) = inl (inl e)
    by rest Greater (inr later) = elim (rest later) [ inl old ↦ inl (inr old) | inr new ↦ inr new ]

-- the old elements stay
pub in_insert_old : (t : List ℕ) (xs : List (List ℕ)) (k : List ℕ) → In t xs → In t (insert_key literal_cmp xs k)
in_insert_old t [] k h = absurd h
in_insert_old t (x ∷ xs) k h = by (in_insert_old t xs k) (literal_cmp k x) h
  where
    by : (In t xs → In t (insert_key literal_cmp xs k)) → (r : Ordering) → In t (x ∷ xs) → In t (match_ordering r (k ∷ x ∷ xs) (x ∷ xs) (x ∷ insert_key literal_cmp xs k))
    by rest Less old = inr old
    by rest Equal old = old
    by rest Greater (inl e) = inl e
    by rest Greater (inr old) = inr (rest old)

-- the new one is there
pub in_insert_new : (xs : List (List ℕ)) (k : List ℕ) → In k (insert_key literal_cmp xs k)
in_insert_new [] k = inl refl
in_insert_new (x ∷ xs) k = by (in_insert_new xs k) (literal_cmp k x) refl
  where
    by : In k (insert_key literal_cmp xs k) → (r : Ordering) → literal_cmp k x ≡ r → In k (match_ordering r (k ∷ x ∷ xs) (x ∷ xs) (x ∷ insert_key literal_cmp xs k))
    by rest Less e = inl refl
    by rest Equal e = inl (sym (same_from_tie k x e))
    by rest Greater e = inr rest

-- the total length grows at most by the length of the new text
pub sum_by-insert-le : (xs : List (List ℕ)) (k : List ℕ) → sum_by length (insert_key literal_cmp xs k) ≤ sum_by length xs + length k
sum_by-insert-le [] k = omega arith
sum_by-insert-le (x ∷ xs) k = by (sum_by-insert-le xs k) (literal_cmp k x)
  where
    by : sum_by length (insert_key literal_cmp xs k) ≤ sum_by length xs + length k → (r : Ordering) → sum_by length (match_ordering r (k ∷ x ∷ xs) (x ∷ xs) (x ∷ insert_key literal_cmp xs k)) ≤ sum_by length (x ∷ xs) + length k
    by rest Less = omega (arith, sum_by-cons {X = List ℕ} length k (x ∷ xs))
    by rest Equal = omega arith
    by rest Greater = omega (arith, sum_by-cons {X = List ℕ} length x xs, sum_by-cons {X = List ℕ} length x (insert_key literal_cmp xs k), rest)

-- and there is one more at most
pub length-insert-le : (xs : List (List ℕ)) (k : List ℕ) → length (insert_key literal_cmp xs k) ≤ length xs + 1
length-insert-le [] k = omega arith
length-insert-le (x ∷ xs) k = by (length-insert-le xs k) (literal_cmp k x)
  where
    by : length (insert_key literal_cmp xs k) ≤ length xs + 1 → (r : Ordering) → length (match_ordering r (k ∷ x ∷ xs) (x ∷ xs) (x ∷ insert_key literal_cmp xs k)) ≤ length (x ∷ xs) + 1
    by rest Less = omega arith
    by rest Equal = omega arith
    by rest Greater = omega (arith, rest)
