-- A text that stands after lines of another: the literals that end in it are the literals of the whole that end there.
use Rattle.std.proofs.Common.{◌≡◌, ℕ, ◌+◌, ◌-◌, ◌<◌, ◌≤◌, List, [], ◌∷◌, ◌++◌, length, map, All, inl, inr, refl, sym, ap, ◌∙◌, subst, append_assoc, arith}
use Rattle.std.proofs.lemmas.List.{length-append, length-map, map-append}
use Rattle.std.proofs.lemmas.Option.{get_or_from_slice_get, slice_get_within}
use Rattle.lit_base.specs.declared.fold.Fold.{Fold}
use Rattle.lit_base.specs.declared.fold.Fold.TheVariants.{No, Ascii}
use Rattle.lit_base.specs.Folding.{folded, folded_text}
use Rattle.lit_base.specs.Lines.{IsOnePiece, open_rest}
use Rattle.lit_base.specs.Literals.{Literals}
use Rattle.lit_base.specs.Occurrences.{HasEnd, Occurs}
use Rattle.lit_base.specs.NextEnds.{IsNextEnd, NoEndAfter}
use Rattle.lit_base.proofs.EndedLemmas.{open_rest-append, open_rest-newline}
use Rattle.text_ends.proofs.Occurring.{occurs_after, occurs_in_rest}
use Rattle.text_lines.specs.HitLines.{IsAfterLines, IsFirstHitLine}
use Rattle.text_lines.proofs.Crossing.{crossing, ends_in_newline}
use Rattle.text_lines.proofs.LiteralParts.{occurs-parts}
use Rattle.text_lines.proofs.Newlines.{open_rest-closed, open_rest-nil}

-- each text stands after nothing
pub after-nothing : (text : List ℕ) → IsAfterLines text text
after-nothing text = record { prefix = []; cut = refl; closed = open_rest-nil }

-- and what stands after a line of it stands after lines too
pub after-hit : (l : Literals) (whole text missed line rest : List ℕ) → IsAfterLines whole text → IsFirstHitLine l text missed line rest → IsAfterLines whole rest
after-hit l whole text missed line rest after hit =
    let f = after.prefix in
    let cut : whole ≡ ((f ++ (missed ++ line)) ++ 10 ∷ []) ++ rest =
    after.cut ∙ ap (λ t. f ++ t) (hit.whole ∙ sym (append_assoc missed line (10 ∷ rest))) ∙ sym (append_assoc f (missed ++ line) (10 ∷ rest))
    ∙ sym (append_assoc (f ++ (missed ++ line)) (10 ∷ []) rest) in
    record { prefix = (f ++ (missed ++ line)) ++ 10 ∷ []; cut = cut; closed = open_rest-closed (f ++ (missed ++ line)) }

-- what stands after a line with a literal is a text of ended lines, as the whole is
pub hit-closed : {l : Literals} {rest missed line after : List ℕ} → IsFirstHitLine l rest missed line after → open_rest rest ≡ [] → open_rest after ≡ []
hit-closed {l} {rest} {missed} {line} {after} hit closed =
    sym (ap open_rest hit.whole ∙ open_rest-append missed (line ++ 10 ∷ after) ∙ ap (λ r. open_rest (r ++ (line ++ 10 ∷ after))) hit.closed ∙ open_rest-newline line after hit.one) ∙ closed

-- the whole is longer than the text by the prefix
pub after-len : (whole text : List ℕ) (after : IsAfterLines whole text) → length whole ≡ length after.prefix + length text
after-len whole text after = ap length after.cut ∙ length-append after.prefix text

-- a newline stays one
folded-10 : (fold : Fold) → folded fold 10 ≡ 10
folded-10 No = refl
folded-10 Ascii = refl

-- a folded text round a newline
pub map-newline : (fold : Fold) (prefix rest : List ℕ) → folded_text fold (prefix ++ 10 ∷ rest) ≡ folded_text fold prefix ++ 10 ∷ folded_text fold rest
map-newline fold prefix rest = map-append (folded fold) prefix (10 ∷ rest) ∙ ap (λ b. folded_text fold prefix ++ b ∷ folded_text fold rest) (folded-10 fold)

-- where no literal holds a newline, the one that ends at a position holds none
pub one-literal : (l : Literals) → All IsOnePiece l.texts → (text : List ℕ) (place end : ℕ) (o : Occurs l text place end) → IsOnePiece o.literal
one-literal l apart text place end o =
    let t = o.literal in
    subst IsOnePiece (get_or_from_slice_get l.texts place t t o.stands) (apart place t (slice_get_within l.texts place t o.stands))

module _ (l : Literals) (apart : All IsOnePiece l.texts) (prefix text : List ℕ) (closed : open_rest prefix ≡ []) where
  -- what ends after the prefix begins after it, since a newline stands between
  begins_after : (a t b : List ℕ) → IsOnePiece t → length prefix < length a + length t → folded_text l.folding (prefix ++ text) ≡ a ++ (t ++ b) → length prefix ≤ length a
  begins_after a t b single late parts = elim (ends_in_newline prefix closed) [
    | inl none ↦ let zero : length prefix ≡ 0 = ap length none in omega (arith, zero)
    | inr w ↦
        let f = folded l.folding in
        let cut : prefix ++ text ≡ w.0 ++ 10 ∷ text = ap (λ u. u ++ text) w.1 ∙ append_assoc w.0 (10 ∷ []) text in
        let same : map f w.0 ++ 10 ∷ map f text ≡ a ++ (t ++ b) = sym (map-newline l.folding w.0 text) ∙ sym (ap (map f) cut) ∙ parts in
        let long : length prefix ≡ length w.0 + 1 = ap length w.1 ∙ length-append w.0 (10 ∷ []) in
        let short : length (map f w.0) ≡ length w.0 = length-map w.0 f in
        elim (crossing (map f w.0) (map f text) a t b single same) [
          | inl before ↦ absurd (omega (arith, before, long, short, late))
          | inr after ↦ omega (arith, after, long, short)
        ]
  ]

  -- so a literal that ends in the whole after the prefix ends in the text
  pub ends_in_text : (end : ℕ) → 0 < end → HasEnd l (prefix ++ text) (length prefix + end) → HasEnd l text end
  ends_in_text end some h =
      let p = occurs-parts l (prefix ++ text) h.0 (length prefix + end) h.1 in
      let low = begins_after p.before h.1.literal p.after (one-literal l apart (prefix ++ text) h.0 (length prefix + end) h.1) (omega (arith, p.at, some)) p.whole in
      (h.0, occurs_in_rest l prefix text h.0 end h.1 (omega (arith, low, p.at)))

  -- the next end of the whole after the prefix is the first of the text
  next_in_text : (end : ℕ) → IsNextEnd l (prefix ++ text) (length prefix) end → IsNextEnd l text 0 (end - length prefix)
  next_in_text end next =
      let there : end ≡ length prefix + (end - length prefix) = omega (arith, next.after) in
      record {
        after = omega (arith, next.after);
        within = omega (arith, next.within, length-append prefix text);
        here = ends_in_text (end - length prefix) (omega (arith, next.after)) (subst (HasEnd l (prefix ++ text)) there next.here);
        first = λ other some low h. next.first (length prefix + other) (omega (arith, some)) (omega (arith, low)) (h.0, occurs_after l prefix text h.0 other h.1);
      }

  none_in_text : NoEndAfter l (prefix ++ text) (length prefix) → NoEndAfter l text 0
  none_in_text none = λ end some h. none (length prefix + end) (omega (arith, some)) (h.0, occurs_after l prefix text h.0 end h.1)

-- the same of any whole in which the text stands after lines
pub rest-next : (l : Literals) → All IsOnePiece l.texts → (whole text : List ℕ) (from end : ℕ) → IsAfterLines whole text → from + length text ≡ length whole → IsNextEnd l whole from end → IsNextEnd l text 0 (end - from)
rest-next l apart whole text from end after place next =
    let at : from ≡ length after.prefix = omega (arith, place, after-len whole text after) in
    let moved : IsNextEnd l (after.prefix ++ text) (length after.prefix) end =
    subst (λ n. IsNextEnd l (after.prefix ++ text) n end) at (subst (λ w. IsNextEnd l w from end) after.cut next) in
    subst (λ n. IsNextEnd l text 0 (end - n)) (sym at) (next_in_text l apart after.prefix text after.closed end moved)

pub rest-none : (l : Literals) → All IsOnePiece l.texts → (whole text : List ℕ) (from : ℕ) → IsAfterLines whole text → from + length text ≡ length whole → NoEndAfter l whole from → NoEndAfter l text 0
rest-none l apart whole text from after place none =
    let at : from ≡ length after.prefix = omega (arith, place, after-len whole text after) in
    none_in_text l apart after.prefix text after.closed (subst (λ w. NoEndAfter l w (length after.prefix)) after.cut (subst (NoEndAfter l whole) at none))

-- and so of any literal that ends in the whole after them
pub rest-end : (l : Literals) → All IsOnePiece l.texts → (whole text : List ℕ) (from end : ℕ) → IsAfterLines whole text → from + length text ≡ length whole → 0 < end → HasEnd l whole (from + end) → HasEnd l text end
rest-end l apart whole text from end after place some here =
    let at : from ≡ length after.prefix = omega (arith, place, after-len whole text after) in
    ends_in_text l apart after.prefix text after.closed end some (subst (λ n. HasEnd l (after.prefix ++ text) (n + end)) at (subst (λ w. HasEnd l w (from + end)) after.cut here))
