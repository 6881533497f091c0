-- A binary search among literals in order finds a literal that is there.
use Rattle.std.proofs.Common.{◌≡◌, ℕ, ◌+◌, ◌<◌, List, [], ◌∷◌, length, get_or, Contains, Some, Err, inl, inr, refl, ap, ◌∙◌, arith}
use Rattle.std.specs.declared.cmp.Ordering.TheVariants.{Less, Equal, Greater}
use Rattle.std.specs.Ordering.{ordering_reverse, is_lt}
use Rattle.std.specs.List.{HoldsAt}
use Rattle.std.specs.List.Sorted.{IsStrictlySortedBy, IsSortedBy, IsBinarySearchResult}
use Rattle.std.proofs.lemmas.Bool.{cases_lt}
use Rattle.std.proofs.lemmas.Map.Keys.{Less-from_sorted}
use Rattle.std.proofs.lemmas.List.Sorted.{searchable_from_sorted}
use Rattle.std.proofs.lemmas.Option.{slice_get-get_or}
use Rattle.lit_base.specs.declared.fold.Fold.{Fold}
use Rattle.lit_base.specs.Folding.{folded_text}
use Rattle.lit_base.specs.Literals.{literal_cmp}
use Rattle.lit_base.specs.NormalForm.{IsPlaceOf}
use Rattle.std.proofs.lemmas.Cmp.{tied_itself}
use Rattle.lit_base.proofs.InsertLemmas.{literal_total, same_from_tie}

-- no literal is less than the one before it
rising : (xs : List (List ℕ)) → IsStrictlySortedBy literal_cmp xs → IsSortedBy (λ a b. is_lt (literal_cmp a b)) xs
rising xs h k d low inside =
    let up : literal_cmp (get_or xs k d) (get_or xs (k + 1) d) ≡ Less = Less-from_sorted literal_cmp xs k (k + 1) d h (omega arith) inside in
    let down : literal_cmp (get_or xs (k + 1) d) (get_or xs k d) ≡ Greater = literal_total.antisymm (get_or xs (k + 1) d) (get_or xs k d) ∙ ap ordering_reverse up in
    ap is_lt down

-- where the search finds no place, the literal is not there
pub not_there : (xs : List (List ℕ)) (t : List ℕ) (i : ℕ) → IsStrictlySortedBy literal_cmp xs → IsBinarySearchResult (λ y. literal_cmp y t) xs (Err i) → Contains xs t → ⊥
not_there xs t i h search_result w =
    let split = search_result (searchable_from_sorted literal_total (λ y. y) xs t (rising xs h)) in
    let same : literal_cmp (get_or xs w.0 t) t ≡ Equal = ap (λ u. literal_cmp u t) w.2 ∙ tied_itself literal_total t in
    elim (cases_lt w.0 i) [
      | inl before ↦ let less = split.0 w.0 t (omega arith) before in cc
      | inr after ↦ let greater = split.1 w.0 t after w.1 in cc
    ]

-- where it finds one, the literal stands there
pub stands_there : (folding : Fold) (xs : List (List ℕ)) (p t : List ℕ) (k : ℕ) → t ≡ folded_text folding p → 0 < length p → k < length xs → HoldsAt (λ y. literal_cmp y t ≡ Equal) xs k → IsPlaceOf folding xs p (Some k)
stands_there folding xs [] t k is some inside found = absurd (omega arith)
stands_there folding xs (b ∷ bs) t k is some inside found =
    let here : get_or xs k t ≡ t = same_from_tie (get_or xs k t) t (found t) in
    (k, refl, slice_get-get_or xs k t inside ∙ ap (λ u. Some u) (here ∙ is))
