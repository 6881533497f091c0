-- A plan and a null pattern select what the raw patterns select that they stand for.
use Rattle.std.proofs.Common.{◌≡◌, ◌≢◌, ℕ, zero, suc, ◌+◌, ◌<◌, Bool, true, false, not, ◌&&◌, cond, eqb, leb, List, [], ◌∷◌, ◌++◌, length, map, get_or, All, Contains, Option, None, Some, inl, inr, ◌↔◌, refl, sym, ap, ◌∙◌, subst, arith}
use Rattle.std.specs.Cmp.{both_ways}
use Rattle.std.specs.Str.Iter.{HasSubslice}
use Rattle.std.proofs.lemmas.List.{get_or_default, get_or-map, length-map}
use Rattle.std.proofs.lemmas.List.Elements.{All-map, Contains-get_or, Contains-append_left, Contains-append_right, Contains-append_cases}
use Rattle.lit_base.specs.declared.fold.Fold.{Fold}
use Rattle.lit_base.specs.declared.fold.Fold.TheVariants.{No, Ascii}
use Rattle.lit_base.specs.Folding.{folded, folded_text}
use Rattle.lit_base.specs.Lines.{IsOnePiece}
use Rattle.lit_base.specs.NormalForm.{IsNormalForm}
use Rattle.lit_base.specs.Selected.{MatchesPattern, matches}
use Rattle.lit_base.proofs.MatchLemmas.{matching}
use Rattle.lit_base.proofs.NormalForms.{folded_text-folded_text}
use Rattle.lit_base.proofs.PieceLemmas.{null_if}
use Rattle.lit_plan.specs.Plans.{Plan}
use Rattle.line_pick.specs.Matching.{AreInLines, StandingLaw, StandsFor, fold_of, literals_of, literals_and_null}
use Rattle.line_pick.proofs.Patterns.{null-misses, null-matches, null-occurs, null-whole, none-matches}

-- an element of a mapped list comes from one of the list
from_mapped : (f : List ℕ → List ℕ) (xs : List (List ℕ)) (y : List ℕ) → Contains (map f xs) y → (x : List ℕ) × Contains xs x × (f x ≡ y)
from_mapped f xs y w =
    let inside : w.0 < length xs = omega (arith, w.1, length-map xs f) in
    (get_or xs w.0 [], Contains-get_or xs w.0 [] inside, sym (get_or-map f xs w.0 [] y inside) ∙ w.2)

to_mapped : (f : List ℕ → List ℕ) (xs : List (List ℕ)) (x : List ℕ) → Contains xs x → Contains (map f xs) (f x)
to_mapped f xs x w = (w.0, omega (arith, w.1, length-map xs f), get_or-map f xs w.0 x (f x) w.1 ∙ ap f w.2)

-- only a newline is folded to one
lower_newline : (upper : Bool) (b : ℕ) → (leb 65 b && leb b 90) ≡ upper → cond upper (b + 32) b ≡ 10 → b ≡ 10
lower_newline true b e h = absurd (omega arith)
lower_newline false b e h = h

pub folded-newline : (fold : Fold) (b : ℕ) → folded fold b ≡ 10 → b ≡ 10
folded-newline No b e = e
folded-newline Ascii b e = lower_newline (leb 65 b && leb b 90) b refl e

folded-one : (fold : Fold) (t : List ℕ) → IsOnePiece t → IsOnePiece (folded_text fold t)
folded-one fold t one = All-map (λ b. b ≢ 10) (folded fold) t (λ k d inside e. one k d inside (folded-newline fold (get_or t k d) e))

-- a match is one of a pattern that is there
some_pattern : (fold : Fold) (whole : Bool) (patterns : List (List ℕ)) (line p : List ℕ) → Contains patterns p → MatchesPattern fold whole line p → matches fold whole patterns line ≡ true
some_pattern fold whole patterns line p there h = (matching.matches fold whole patterns line).1 (there.0, p, there.1, there.2, h)

-- patterns that fold alike match alike
same_folded : (fold : Fold) (whole : Bool) (line p q : List ℕ) → folded_text fold p ≡ folded_text fold q → MatchesPattern fold whole line p → MatchesPattern fold whole line q
same_folded fold true line p q e h = h ∙ e
same_folded fold false line p q e h = subst (HasSubslice (folded_text fold line)) e h

-- the null pattern, where there is one
in_null : (due : Bool) (p : List ℕ) → Contains (null_if due) p → (due ≡ true) × ([] ≡ p)
in_null true p (zero, low, e) = (refl, e)
in_null true p (suc k, low, e) = absurd (omega (arith, low))
in_null false p w = absurd (omega (arith, w.1))

null_in : (due : Bool) → due ≡ true → Contains (null_if due) []
null_in true e = (zero, omega arith, refl)
null_in false e = absurd (cc)

module _ (fold : Fold) (raw texts : List (List ℕ)) (has_empty : Bool) (form : IsNormalForm fold raw texts) (null : (has_empty ≡ true) ↔ Contains raw []) (whole : Bool) (line : List ℕ) where
  -- the folded text of a raw pattern that is not null is a literal, and no other is one
  from_text : (t : List ℕ) → Contains texts t → MatchesPattern fold whole line t → matches fold whole raw line ≡ true
  from_text t there h =
      let w = from_mapped (folded_text fold) raw t ((form.members t).0 there).1 in
      let alike : folded_text fold t ≡ folded_text fold w.0 = ap (folded_text fold) (sym w.2) ∙ folded_text-folded_text fold w.0 in
      some_pattern fold whole raw line w.0 w.1 (same_folded fold whole line t w.0 alike h)

  from_null : (p : List ℕ) → Contains (null_if has_empty) p → MatchesPattern fold whole line p → matches fold whole raw line ≡ true
  from_null p there h =
      let w = in_null has_empty p there in
      some_pattern fold whole raw line p (subst (Contains raw) w.1 (null.0 w.0)) h

  to_text : (p : List ℕ) → Contains raw p → MatchesPattern fold whole line p → matches fold whole (texts ++ null_if has_empty) line ≡ true
  to_text [] there h =
      some_pattern fold whole (texts ++ null_if has_empty) line [] (Contains-append_right texts (null_if has_empty) [] (null_in has_empty (null.1 there))) h
  to_text (b ∷ bs) there h =
      let t = folded_text fold (b ∷ bs) in
      let mapped : Contains (map (folded_text fold) raw) t = to_mapped (folded_text fold) raw (b ∷ bs) there in
      let literal : Contains texts t = (form.members t).1 (omega arith, mapped) in
      some_pattern fold whole (texts ++ null_if has_empty) line t (Contains-append_left texts (null_if has_empty) t literal) (same_folded fold whole line (b ∷ bs) t (sym (folded_text-folded_text fold (b ∷ bs))) h)

  -- the normal form matches what the raw patterns match
  normal-matches : matches fold whole (texts ++ null_if has_empty) line ≡ matches fold whole raw line
  normal-matches =
      both_ways (matches fold whole (texts ++ null_if has_empty) line) (matches fold whole raw line)
      (λ e. let w = (matching.matches fold whole (texts ++ null_if has_empty) line).0 e in
      elim (Contains-append_cases texts (null_if has_empty) w.1 (w.0, w.2, w.3)) [ inl there ↦ from_text w.1 there w.4 | inr there ↦ from_null w.1 there w.4 ])
      (λ e. let w = (matching.matches fold whole raw line).0 e in to_text w.1 (w.0, w.2, w.3) w.4)

-- with no literal, no fold matters
null_alone : (fold : Fold) (whole has_empty : Bool) (line : List ℕ) → matches No whole ([] ++ null_if has_empty) line ≡ matches fold whole ([] ++ null_if has_empty) line
null_alone fold whole false line = none-matches No whole line ∙ sym (none-matches fold whole line)
null_alone fold false true line = null-matches No false true [] line refl (null-occurs No line) ∙ sym (null-matches fold false true [] line refl (null-occurs fold line))
null_alone fold true true line = by (eqb (length line) 0) refl
  where
    by : (empty : Bool) → eqb (length line) 0 ≡ empty → matches No true ([] ++ null_if true) line ≡ matches fold true ([] ++ null_if true) line
    by true e = null-matches No true true [] line refl (null-whole No line true e) ∙ sym (null-matches fold true true [] line refl (null-whole fold line true e))
    by false e =
        null-misses No true true [] line (λ _. null-whole No line false e) ∙ none-matches No true line
        ∙ sym (null-misses fold true true [] line (λ _. null-whole fold line false e) ∙ none-matches fold true line)

-- a plan matches under the fold of the raw patterns
plan-matches : (fold : Fold) (raw : List (List ℕ)) (plan : Option Plan) (has_empty whole : Bool) (line : List ℕ) → StandsFor fold raw plan has_empty
    → matches (fold_of plan) whole (literals_and_null plan has_empty) line ≡ matches fold whole raw line
plan-matches fold raw None has_empty whole line h = null_alone fold whole has_empty line ∙ normal-matches fold raw [] has_empty h.form h.null whole line
plan-matches fold raw (Some p) has_empty whole line h =
    ap (λ f. matches f whole (p.literals.texts ++ null_if has_empty) line) h.fold ∙ normal-matches fold raw p.literals.texts has_empty h.form h.null whole line

-- and holds no newline
plan-apart : (fold : Fold) (raw : List (List ℕ)) (plan : Option Plan) (has_empty : Bool) → StandsFor fold raw plan has_empty → All IsOnePiece raw → AreInLines plan
plan-apart fold raw plan has_empty h apart k d inside =
    let t = get_or (literals_of plan) k d in
    let there : Contains (literals_of plan) t = (k, inside, get_or_default (literals_of plan) k t d inside) in
    let w = from_mapped (folded_text fold) raw t ((h.form.members t).0 there).1 in
    subst IsOnePiece w.2 (folded-one fold w.0 (subst IsOnePiece w.1.2 (apart w.1.0 w.0 w.1.1)))

pub standing : StandingLaw
standing = record {
  selected = λ fold raw plan has_empty rule line h. ap (λ m. cond rule.invert (not m) m) (plan-matches fold raw plan has_empty rule.whole line h);
  apart = plan-apart;
}
