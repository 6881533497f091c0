-- Where a literal stands in a folded text: what is before it, and what is after it.
use Rattle.std.proofs.Common.{◌≡◌, ℕ, ◌+◌, ◌-◌, ◌<◌, Bool, true, false, List, ◌++◌, length, take, drop, get_or, map, Some, refl, sym, ap, ◌∙◌, subst, arith, take-append-drop}
use Rattle.std.specs.List.{slice_get}
use Rattle.std.specs.Str.Iter.{HasSubslice}
use Rattle.std.proofs.Math.Seq.{drop-append_seam}
use Rattle.std.proofs.lemmas.List.{map-append, take-map, drop-map, length-map, length-append, take-append-le, take_all, length-take}
use Rattle.std.proofs.lemmas.Option.{get_or_from_slice_get, slice_get-get_or, slice_get_within}
use Rattle.lit_base.specs.declared.fold.Fold.{Fold}
use Rattle.lit_base.specs.Folding.{folded, folded_text}
use Rattle.lit_base.specs.Literals.{Literals, IsNormal}
use Rattle.lit_base.specs.Occurrences.{HasEnd, Occurs}
use Rattle.lit_base.specs.Selected.{Matches}

-- a text, folded, round a literal that ends in it
pub record Parts (folding : Fold) (text t : List ℕ) (end : ℕ) : Type 0 where
  pub before : List ℕ
  pub after : List ℕ
  pub at : length before + length t ≡ end
  pub whole : folded_text folding text ≡ before ++ (t ++ after)

pub occurs-parts : (l : Literals) (text : List ℕ) (place end : ℕ) (o : Occurs l text place end) → Parts l.folding text o.literal end
occurs-parts l text place end o =
    let f = folded l.folding in
    let start = end - length o.literal in
    let rest = drop start text in
    let size = end - start in
    let parts : text ≡ take start text ++ (take size rest ++ drop size rest) =
    sym (take-append-drop start text) ∙ ap (λ t. take start text ++ t) (sym (take-append-drop size rest)) in
    record {
      before = map f (take start text);
      after = map f (drop size rest);
      at = omega (arith, length-map (take start text) f, length-take start text, o.begins, o.ends);
      whole = ap (map f) parts ∙ map-append f (take start text) (take size rest ++ drop size rest)
          ∙ ap (λ t. map f (take start text) ++ t) (map-append f (take size rest) (drop size rest) ∙ ap (λ t. t ++ map f (drop size rest)) o.bytes);
    }

-- a literal that ends in a text is a slice of it
occurs-slice : (l : Literals) (text : List ℕ) (place end : ℕ) (o : Occurs l text place end) → HasSubslice (folded_text l.folding text) o.literal
occurs-slice l text place end o = let p = occurs-parts l text place end o in (p.before, p.after, p.whole)

-- the middle of three parts
middle : (a t b : List ℕ) → take (length t) (drop (length a) (a ++ (t ++ b))) ≡ t
middle a t b = ap (take (length t)) (drop-append_seam a (t ++ b)) ∙ take-append-le (length t) t b (omega arith) ∙ take_all (length t) t (omega arith)

-- a literal that is a slice of the folded text ends in the text
pub slice-occurs : (l : Literals) (text : List ℕ) (place : ℕ) (literal a b : List ℕ) → slice_get l.texts place ≡ Some literal → folded_text l.folding text ≡ a ++ (literal ++ b) → Occurs l text place (length a + length literal)
slice-occurs l text place literal a b stands parts =
    let f = folded l.folding in
    let start : (length a + length literal) - length literal ≡ length a = omega arith in
    let size : (length a + length literal) - length a ≡ length literal = omega arith in
    let whole : length text ≡ length a + (length literal + length b) =
    sym (length-map text f) ∙ ap length parts ∙ length-append a (literal ++ b) ∙ ap (λ n. length a + n) (length-append literal b) in
    record {
      literal = literal;
      stands = stands;
      begins = omega arith;
      ends = omega (arith, whole);
      bytes =
          ap (λ i. map f (take ((length a + length literal) - i) (drop i text))) start
          ∙ ap (λ n. map f (take n (drop (length a) text))) size
          ∙ sym (take-map f (length literal) (drop (length a) text)) ∙ ap (take (length literal)) (sym (drop-map f (length a) text))
          ∙ ap (λ t. take (length literal) (drop (length a) t)) parts ∙ middle a literal b;
    }

-- a test that cannot pass
pub not_passed : (b : Bool) → (b ≡ true → ⊥) → false ≡ b
not_passed true h = absurd (h refl)
not_passed false h = refl

module _ (l : Literals) (normal : IsNormal l) (line : List ℕ) where
  -- a literal of the list, by its place
  pub own : (place : ℕ) (t : List ℕ) → place < length l.texts → get_or l.texts place t ≡ t → slice_get l.texts place ≡ Some t
  own place t inside here = slice_get-get_or l.texts place t inside ∙ ap (λ u. Some u) here

  pub own_folded : (place : ℕ) (t : List ℕ) → place < length l.texts → get_or l.texts place t ≡ t → folded_text l.folding t ≡ t
  own_folded place t inside here = subst (λ u. folded_text l.folding u ≡ u) here (normal.folded place t inside)

  pub own_some : (place : ℕ) (t : List ℕ) → place < length l.texts → get_or l.texts place t ≡ t → 0 < length t
  own_some place t inside here = subst (λ u. 0 < length u) here (normal.nonempty place t inside)

  -- a line that matches a literal has an end of one
  pub end-from_match : Matches l.folding false l.texts line → (end : ℕ) × (0 < end) × HasEnd l line end
  end-from_match w =
      let t = w.1 in
      let same = own_folded w.0 t w.2 w.3 in
      let a = w.4.0 in
      let b = w.4.1 in
      let parts : folded_text l.folding line ≡ a ++ (t ++ b) = w.4.2 ∙ ap (λ u. a ++ (u ++ b)) same in
      (length a + length t, omega (arith, own_some w.0 t w.2 w.3), (w.0, slice-occurs l line w.0 t a b (own w.0 t w.2 w.3) parts))

  -- and the other way
  pub match-from_end : (end : ℕ) → HasEnd l line end → Matches l.folding false l.texts line
  match-from_end end h =
      let o = h.1 in
      let t = o.literal in
      let inside = slice_get_within l.texts h.0 t o.stands in
      let here = get_or_from_slice_get l.texts h.0 t t o.stands in
      let slice = occurs-slice l line h.0 end o in
      let same = own_folded h.0 t inside here in
      (h.0, t, inside, here, (slice.0, slice.1, slice.2 ∙ ap (λ u. slice.0 ++ (u ++ slice.1)) (sym same)))
