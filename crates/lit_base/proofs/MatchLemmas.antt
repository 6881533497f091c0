-- What the tests for a match mean.
use Rattle.std.proofs.Common.{◌≡◌, ℕ, Bool, true, false, eqb, List, [], ◌∷◌, ◌++◌, length, drop, ◌↔◌, inl, inr, refl, sym, ap}
use Rattle.std.specs.List.{starts_with}
use Rattle.std.specs.Str.Iter.{HasSubslice}
use Rattle.std.proofs.lemmas.Slice.Eq.{bytes_eq-Decides, starts_is}
use Rattle.std.proofs.lemmas.List.Folds.{Any-from_list_any, list_any-from_Any}
use Rattle.std.proofs.lemmas.Bool.{or_cases, or_left, or_right}
use Rattle.std.proofs.lemmas.Bool.Decides.{Decides-eqb}
use Rattle.lit_base.specs.declared.fold.Fold.{Fold}
use Rattle.lit_base.specs.Folding.{folded_text}
use Rattle.lit_base.specs.Selected.{MatchesPattern, Matches, occurs_in, matches_pattern, matches, MatchingLaw}

-- where the test passes, the piece is a slice of the text
found : (piece text : List ℕ) → occurs_in piece text ≡ true → HasSubslice text piece
found piece [] h = let e : piece ≡ [] = (bytes_eq-Decides piece []).0 h in ([], [], sym (ap (λ p. p ++ []) e))
found piece (b ∷ bs) h = elim (or_cases (starts_with eqb (b ∷ bs) piece) (occurs_in piece bs) h) [
  | inl begins ↦ ([], drop (length piece) (b ∷ bs), (starts_is (λ x y. Decides-eqb x y) (b ∷ bs) piece _ refl).0 begins)
  | inr later ↦ let w : HasSubslice bs piece = found piece bs later in (b ∷ w.0, w.1, ap (λ t. b ∷ t) w.2)
]

-- the empty list is no sum of others than of itself
empty_middle : (before piece after : List ℕ) → [] ≡ before ++ (piece ++ after) → piece ≡ []
empty_middle [] [] after e = refl
empty_middle [] (p ∷ piece) after e = (cc)
empty_middle (x ∷ before) piece after e = (cc)

-- where the piece is a slice of the text, the test passes
finds : (piece text before after : List ℕ) → text ≡ before ++ (piece ++ after) → occurs_in piece text ≡ true
finds piece [] before after e = (bytes_eq-Decides piece []).1 (empty_middle before piece after e)
finds piece (b ∷ bs) [] after e = or_left _ _ ((starts_is (λ x y. Decides-eqb x y) (b ∷ bs) piece _ refl).1 after e)
finds piece (b ∷ bs) (x ∷ before) after e = or_right _ _ (finds piece bs before after (cc))

-- one pattern: the test passes if and only if the line matches it
one_pattern : (fold : Fold) (whole : Bool) (line pattern : List ℕ) → (matches_pattern fold whole line pattern ≡ true) ↔ MatchesPattern fold whole line pattern
one_pattern fold true line pattern = bytes_eq-Decides (folded_text fold line) (folded_text fold pattern)
one_pattern fold false line pattern =
    (found (folded_text fold pattern) (folded_text fold line), λ w. finds (folded_text fold pattern) (folded_text fold line) w.0 w.1 w.2)

-- some pattern: likewise
some_pattern : (fold : Fold) (whole : Bool) (patterns : List (List ℕ)) (line : List ℕ) → (matches fold whole patterns line ≡ true) ↔ Matches fold whole patterns line
unfolding matches
some_pattern fold whole patterns line = (
  λ h. let w = Any-from_list_any (matches_pattern fold whole line) patterns h in
      (w.0, w.1, w.2, w.3, (one_pattern fold whole line w.1).0 w.4),
  λ w. list_any-from_Any (matches_pattern fold whole line) patterns (w.0, w.1, w.2, w.3, (one_pattern fold whole line w.1).1 w.4),
)

pub matching : MatchingLaw
matching = record {
  occurs = λ piece text. (found piece text, λ w. finds piece text w.0 w.1 w.2);
  matches = some_pattern;
}
