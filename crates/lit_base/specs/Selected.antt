-- Which lines a pattern list selects. POSIX.1-2017 `grep`: DESCRIPTION, and OPTIONS -F, -i, -v, -x.
use Rattle.std.specs.Prelude.{◌≡◌, ℕ, Bool, true, false, not, ◌||◌, ◌↔◌, IsTrue, List, [], ◌∷◌, nat_eq, Any, if◌then◌else◌, filter}
use Rattle.std.specs.List.{starts_with, list_any}
use Rattle.std.specs.Str.{bytes_eq}
use Rattle.std.specs.Str.Iter.{HasSubslice}
use Rattle.lit_base.specs.declared.fold.Fold.{Fold}
use Rattle.lit_base.specs.Folding.{folded_text}

-- the pattern, folded, is a slice of the folded line, or under -x the whole of it
abbrev pub MatchesPattern : Fold → Bool → List ℕ → List ℕ → Type 0
MatchesPattern fold true line pattern = folded_text fold line ≡ folded_text fold pattern
MatchesPattern fold false line pattern = HasSubslice (folded_text fold line) (folded_text fold pattern)

-- the line matches one of the patterns
abbrev pub Matches : Fold → Bool → List (List ℕ) → List ℕ → Type 0
Matches fold whole patterns line = Any (MatchesPattern fold whole line) patterns

-- whether the piece begins at some position of the text
abbrev pub occurs_in : List ℕ → List ℕ → Bool
occurs_in piece [] = bytes_eq piece []
occurs_in piece (b ∷ bs) = starts_with nat_eq (b ∷ bs) piece || occurs_in piece bs

-- the tests of the two facts, which `matching_law` ties to them
abbrev pub matches_pattern : Fold → Bool → List ℕ → List ℕ → Bool
matches_pattern fold true line pattern = bytes_eq (folded_text fold line) (folded_text fold pattern)
matches_pattern fold false line pattern = occurs_in (folded_text fold pattern) (folded_text fold line)

unfoldable pub matches : Fold → Bool → List (List ℕ) → List ℕ → Bool
matches fold whole patterns line = list_any (matches_pattern fold whole line) patterns

-- whether a line is selected: it matches, or under -v it does not
abbrev pub is_selected : Fold → Bool → Bool → List (List ℕ) → List ℕ → Bool
is_selected fold whole invert patterns line = if invert then not (matches fold whole patterns line) else matches fold whole patterns line

-- the lines that match, or under -v the others
abbrev pub selected : Fold → Bool → Bool → List (List ℕ) → List (List ℕ) → List (List ℕ)
selected fold whole invert patterns = filter (is_selected fold whole invert patterns)

-- a test says whether its fact holds: what the two recursions above mean
pub record MatchingLaw : Type 0 where
  pub occurs : (piece text : List ℕ) → IsTrue (occurs_in piece text) ↔ HasSubslice text piece
  pub matches : (fold : Fold) (whole : Bool) (patterns : List (List ℕ)) (line : List ℕ) →
      IsTrue (matches fold whole patterns line) ↔ Matches fold whole patterns line
