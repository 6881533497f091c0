-- Where literals end in a line, and which slices it has.
use Rattle.std.proofs.Common.{◌≡◌, ℕ, ◌-◌, ◌<◌, ◌≤◌, true, false, List, [], All, length, map, take, drop, get_or, MatchOption, Option, None, Some, sym, ap, ◌∙◌, subst, arith, append-nil, inl, inr}
use Rattle.std.specs.Option.{is_some}
use Rattle.std.specs.List.{slice_get}
use Rattle.std.proofs.lemmas.Bool.{cases_lt}
use Rattle.std.proofs.lemmas.List.{length-map, take_all, get_or_default, get_or-map}
use Rattle.std.proofs.lemmas.Option.{get_or_from_slice_get, slice_get_within}
use Rattle.lit_base.specs.declared.fold.Fold.{Fold}
use Rattle.lit_base.specs.Folding.{folded, folded_text}
use Rattle.lit_base.specs.Literals.{Literals, IsNormal, lengths}
use Rattle.lit_base.specs.Occurrences.{IsFirstEnding, NoneEnds, Occurs}
use Rattle.lit_base.specs.Selected.{Matches, matches}
use Rattle.lit_base.proofs.MatchLemmas.{matching}
use Rattle.lit_base.specs.NextEnds.{IsNextEnd, NoEndAfter}
use Rattle.text_lines.proofs.LiteralParts.{end-from_match, match-from_end, not_passed, own, own_folded, slice-occurs}

-- where all patterns are shorter than a line, it is none of them
pub too-long : (fold : Fold) (patterns : List (List ℕ)) (line : List ℕ) → All (λ t. length t < length line) patterns → matches fold true patterns line ≡ false
too-long fold patterns line short = sym (not_passed (matches fold true patterns line) (λ e.
    let w = (matching.matches fold true patterns line).0 e in
    let fits : length w.1 < length line = subst (λ (t : List ℕ). length t < length line) w.3 (short w.0 w.1 w.2) in
    let same : length line ≡ length w.1 = sym (length-map line (folded fold)) ∙ ap length w.4 ∙ length-map w.1 (folded fold) in
    omega (arith, fits, same)))

-- lengths that are bounded are the literals'
pub bounded-texts : (texts : List (List ℕ)) (longest : ℕ) → All (λ len. len ≤ longest) (map length texts) → All (λ t. length t ≤ longest) texts
bounded-texts texts longest bound k d inside =
    omega (arith, bound k (length d) (omega (arith, inside, length-map texts (length {A = ℕ}))), get_or-map length texts k d (length d) inside)

module _ (l : Literals) (normal : IsNormal l) (line : List ℕ) where
  -- a line matches a literal if and only if some literal ends in it
  pub ends-matches : (found : Option ℕ) → MatchOption found (NoEndAfter l line 0) (IsNextEnd l line 0) → is_some found ≡ matches l.folding false l.texts line
  ends-matches None none = not_passed (matches l.folding false l.texts line) (λ e.
      let w = end-from_match l normal line ((matching.matches l.folding false l.texts line).0 e) in none w.0 w.1 w.2)
  ends-matches (Some end) found = sym ((matching.matches l.folding false l.texts line).1 (match-from_end l normal line end found.here))

  -- the length of a literal, by its place
  pub own_length : (place : ℕ) (t : List ℕ) → slice_get l.texts place ≡ Some t → get_or (lengths l) place 0 ≡ length t
  own_length place t stands =
      let inside = slice_get_within l.texts place t stands in
      get_or_default (lengths l) place 0 (length t) (omega (arith, length-map l.texts (length {A = ℕ}), inside))
      ∙ get_or-map (length {A = ℕ}) l.texts place t (length t) inside ∙ ap length (get_or_from_slice_get l.texts place t t stands)

  module _ (first : ℕ) (shorter : (place : ℕ) → place < first → get_or (lengths l) place 0 < length line)
      (as_long : (place : ℕ) → first ≤ place → place < length l.texts → length line ≤ get_or (lengths l) place 0) where
    -- a literal as long as the line, and no shorter one, ends with it only as a whole
    whole_at : (place : ℕ) → first ≤ place → Occurs l line place (length line) → Matches l.folding true l.texts line
    whole_at place counted o =
        let t = o.literal in
        let inside = slice_get_within l.texts place t o.stands in
        let here = get_or_from_slice_get l.texts place t t o.stands in
        let size : length t ≡ length line = omega (arith, o.begins, as_long place counted inside, own_length place t o.stands) in
        let start : length line - length t ≡ 0 = omega (arith, size) in
        let none : length line - 0 ≡ length line = omega arith in
        let all : folded_text l.folding line ≡ t =
        ap (folded_text l.folding) (sym (take_all (length line) line (omega arith))) ∙ ap (λ n. folded_text l.folding (take n line)) (sym none)
        ∙ ap (λ i. folded_text l.folding (take (length line - i) (drop i line))) (sym start) ∙ o.bytes in
        (place, t, inside, here, all ∙ sym (own_folded l normal line place t inside here))

    occurs_whole : (place : ℕ) (t : List ℕ) → place < length l.texts → get_or l.texts place t ≡ t → folded_text l.folding line ≡ folded_text l.folding t → (first ≤ place) × Occurs l line place (length line)
    occurs_whole place t inside here e =
        let stands = own l normal line place t inside here in
        let all : folded_text l.folding line ≡ t = e ∙ own_folded l normal line place t inside here in
        let size : length line ≡ length t = sym (length-map line (folded l.folding)) ∙ ap length all in
        let late : first ≤ place = elim (cases_lt place first) [
          | inl before ↦ absurd (omega (arith, shorter place before, own_length place t stands, size))
          | inr later ↦ later
        ] in
        (late, subst (Occurs l line place) (omega (arith, size)) (slice-occurs l line place t [] [] stands (all ∙ sym (append-nil t))))

    -- a line is a literal if and only if a literal at least as long ends with it
    pub whole-matches : (found : Option ℕ) → MatchOption found (NoneEnds l line first (length line)) (IsFirstEnding l line first (length line)) → is_some found ≡ matches l.folding true l.texts line
    whole-matches None none = not_passed (matches l.folding true l.texts line) (λ e.
        let w = (matching.matches l.folding true l.texts line).0 e in
        let o = occurs_whole w.0 w.1 w.2 w.3 w.4 in none w.0 o.0 o.1)
    whole-matches (Some place) found = sym ((matching.matches l.folding true l.texts line).1 (whole_at place found.counted found.occurs))
