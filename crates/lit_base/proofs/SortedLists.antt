-- Two lists in a strict order that have the same elements are the same; the order of hits is total.
use Rattle.std.proofs.Common.{◌≡◌, ℕ, List, [], ◌∷◌, Contains, Ordering, ◌⊎◌, inl, inr, refl, sym, ap, ◌∙◌, subst}
use Rattle.std.specs.declared.cmp.Ordering.TheVariants.{Less, Equal, Greater}
use Rattle.std.specs.Ordering.{ordering_reverse}
use Rattle.std.specs.Cmp.{IsTotalOrder, then_total, on_total, nat_cmp_total}
use Rattle.std.specs.List.{AllByRecursion}
use Rattle.std.specs.List.Sorted.{IsStrictlySortedBy}
use Rattle.std.proofs.lemmas.Cmp.{tied_itself}
use Rattle.lit_base.specs.Occurrences.{hit_cmp}
use Rattle.lit_base.proofs.Members.{In, in_from_contains, contains_from_in}

-- what holds of all elements holds of one
of_one : {K : Type 0} (P : K → Type 0) (t : K) (xs : List K) → AllByRecursion P xs → In t xs → P t
of_one P t [] all h = absurd h
of_one P t (x ∷ xs) all (inl e) = subst P e all.0
of_one P t (x ∷ xs) all (inr h) = of_one P t xs all.1 h

module _ {K : Type 0} (R : K → K → Ordering) (o : IsTotalOrder R) where
  -- no element is below itself
  pub not_below : (t u : K) → R t u ≡ Less → t ≡ u → ⊥
  not_below t u less e = let same : R t u ≡ Equal = ap (R t) (sym e) ∙ tied_itself o t in (cc)

  -- no two are below each other
  not_both : (t u : K) → R t u ≡ Less → R u t ≡ Less → ⊥
  not_both t u less more = let back : R u t ≡ Greater = o.antisymm u t ∙ ap ordering_reverse less in (cc)

  -- an element of a list that is not its first is after it
  after : (x t : K) (xs : List K) → AllByRecursion (λ y. R x y ≡ Less) xs → (x ≡ t) ⊎ In t xs → (x ≡ t) ⊎ (R x t ≡ Less)
  after x t xs all (inl e) = inl e
  after x t xs all (inr h) = inr (of_one (λ y. R x y ≡ Less) t xs all h)

  -- the first elements are the same
  same_first : (x y : K) → (y ≡ x) ⊎ (R y x ≡ Less) → (x ≡ y) ⊎ (R x y ≡ Less) → x ≡ y
  same_first x y (inl e) back = sym e
  same_first x y (inr less) (inl e) = e
  same_first x y (inr less) (inr more) = absurd (not_both x y more less)

  -- an element of the one rest is one of the other
  in_rest : (x y t : K) (xs ys : List K) → x ≡ y → AllByRecursion (λ z. R x z ≡ Less) xs → In t xs → (y ≡ t) ⊎ In t ys → In t ys
  in_rest x y t xs ys e all h (inl f) = absurd (not_below x t (of_one (λ z. R x z ≡ Less) t xs all h) (e ∙ f))
  in_rest x y t xs ys e all h (inr there) = there

  same_by_in : (xs ys : List K) → IsStrictlySortedBy R xs → IsStrictlySortedBy R ys → ((t : K) → In t xs → In t ys) → ((t : K) → In t ys → In t xs) → xs ≡ ys
  unfolding IsStrictlySortedBy
  same_by_in [] [] s r to back = refl
  same_by_in [] (y ∷ ys) s r to back = absurd (back y (inl refl))
  same_by_in (x ∷ xs) [] s r to back = absurd (to x (inl refl))
  same_by_in (x ∷ xs) (y ∷ ys) s r to back =
      let e : x ≡ y = same_first x y (after y x ys r.0 (to x (inl refl))) (after x y xs s.0 (back y (inl refl))) in
      let rest : xs ≡ ys = same_by_in xs ys s.1 r.1
      (λ t h. in_rest x y t xs ys e s.0 h (to t (inr h)))
      (λ t h. in_rest y x t ys xs (sym e) r.0 h (back t (inr h))) in
      (cc)

  -- two strictly sorted lists with the same elements are the same
  pub same_elements : (xs ys : List K) → IsStrictlySortedBy R xs → IsStrictlySortedBy R ys → ((t : K) → Contains xs t → Contains ys t) → ((t : K) → Contains ys t → Contains xs t) → xs ≡ ys
  same_elements xs ys s r to back =
      same_by_in xs ys s r (λ t h. in_from_contains t ys (to t (contains_from_in t xs h))) (λ t h. in_from_contains t xs (back t (contains_from_in t ys h)))

-- the order of hits is total
pub hit_total : IsTotalOrder hit_cmp
hit_total = then_total (on_total (λ (hit : ℕ × ℕ). hit.1) nat_cmp_total) (on_total (λ (hit : ℕ × ℕ). hit.0) nat_cmp_total)
