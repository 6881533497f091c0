-- The normal form of a pattern list: its nonempty folded patterns, each once, by length and then by bytes.
use Rattle.std.specs.Prelude.{◌≡◌, ℕ, ◌<◌, ◌↔◌, List, [], ◌∷◌, length, map, Contains, Option, Some, None, fold}
use Rattle.std.specs.BTreeSet.{insert_key}
use Rattle.std.specs.List.{slice_get}
use Rattle.std.specs.List.Sorted.{IsStrictlySortedBy}
use Rattle.lit_base.specs.declared.fold.Fold.{Fold}
use Rattle.lit_base.specs.Folding.{folded_text}
use Rattle.lit_base.specs.Literals.{literal_cmp}

-- the literals of a list in normal form: they strictly rise, and are exactly the nonempty folded patterns
pub record IsNormalForm (folding : Fold) (patterns texts : List (List ℕ)) : Type 0 where
  pub rising : IsStrictlySortedBy literal_cmp texts
  pub members : (t : List ℕ) → Contains texts t ↔ ((0 < length t) × Contains (map (folded_text folding) patterns) t)

-- the literals with the literal of one more pattern; a null pattern adds none
abbrev pub with_pattern : Fold → List (List ℕ) → List ℕ → List (List ℕ)
with_pattern folding texts [] = texts
with_pattern folding texts (b ∷ bs) = insert_key literal_cmp texts (folded_text folding (b ∷ bs))

-- the one list in normal form, as `normal_form_law` says
unfoldable pub normal_form : Fold → List (List ℕ) → List (List ℕ)
normal_form folding patterns = fold (with_pattern folding) [] patterns

-- where a pattern stands among the literals: a null one nowhere, another where its folded text does
abbrev pub IsPlaceOf : Fold → List (List ℕ) → List ℕ → Option ℕ → Type 0
IsPlaceOf folding texts [] place = place ≡ None
IsPlaceOf folding texts (b ∷ bs) place = (k : ℕ) × (place ≡ Some k) × (slice_get texts k ≡ Some (folded_text folding (b ∷ bs)))

-- what `normal_form` says: it is in normal form, and no other list is
pub record NormalFormLaw : Type 0 where
  pub is : (folding : Fold) (patterns : List (List ℕ)) → IsNormalForm folding patterns (normal_form folding patterns)
  pub only : (folding : Fold) (patterns texts : List (List ℕ)) → IsNormalForm folding patterns texts → texts ≡ normal_form folding patterns
