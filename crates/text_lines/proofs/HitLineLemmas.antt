-- The first line of a text that holds a literal, by the first place at which a literal ends.
use Rattle.std.proofs.Common.{◌≡◌, ◌≢◌, ℕ, ◌+◌, ◌-◌, ◌<◌, ◌≤◌, true, false, List, [], ◌∷◌, ◌++◌, length, take, drop, map, All, inl, inr, refl, sym, ap, ◌∙◌, subst, append_assoc, append-nil, take-append-drop, arith}
use Rattle.std.specs.Str.Iter.{HasSubslice}
use Rattle.std.proofs.Math.Seq.{drop-append_seam, take-append_seam}
use Rattle.std.proofs.lemmas.List.{append_cancel_left, length-map, length-append, length-take, length-drop}
use Rattle.std.proofs.lemmas.List.Elements.{All-append, All-weaker}
use Rattle.std.proofs.lemmas.Option.{get_or_from_slice_get, slice_get_within}
use Rattle.lit_base.specs.Folding.{folded}
use Rattle.lit_base.specs.Lines.{IsOnePiece, ended_lines, open_rest}
use Rattle.lit_base.specs.Literals.{Literals, IsNormal}
use Rattle.lit_base.specs.Selected.{matches}
use Rattle.lit_base.proofs.MatchLemmas.{matching}
use Rattle.lit_base.specs.Occurrences.{HasEnd, Occurs}
use Rattle.lit_base.specs.NextEnds.{IsNextEnd, NoEndAfter}
use Rattle.text_lines.specs.Cutting.{IsFirstLine, IsLastCut}
use Rattle.text_lines.specs.HitLines.{AllMiss, IsFirstHitLine}
use Rattle.text_ends.proofs.Occurring.{occurs_after, occurs_in_prefix, occurs_of_prefix}
use Rattle.text_lines.proofs.AfterLines.{ends_in_text, map-newline, one-literal}
use Rattle.text_lines.proofs.Crossing.{crossing, ended_lines-slices}
use Rattle.text_lines.proofs.LiteralParts.{end-from_match, match-from_end, not_passed, occurs-parts, own_some}
use Rattle.text_lines.proofs.Newlines.{one-shorter, open_rest-ended, open_rest-nil}

-- a text before the end of its first literal
split_prefix : (text prefix tail missed head : List ℕ) (end : ℕ) → prefix ≡ take (end - 1) text → tail ≡ drop (end - 1) text → IsLastCut prefix missed head → text ≡ missed ++ (head ++ tail)
split_prefix text prefix tail missed head end is_prefix is_tail cut =
    sym (take-append-drop (end - 1) text) ∙ ap (λ u. u ++ drop (end - 1) text) (sym is_prefix ∙ cut.whole) ∙ ap (λ u. (missed ++ head) ++ u) (sym is_tail) ∙ append_assoc missed head tail

-- the two parts of the line, before the end of a literal and from there on, lie in the text
pub line-room : (text prefix tail missed head ending after : List ℕ) (at : ℕ) → prefix ≡ take at text → tail ≡ drop at text → IsLastCut prefix missed head → IsFirstLine tail ending after
    → length missed + (length head + length ending) ≤ length text
line-room text prefix tail missed head ending after at is_prefix is_tail cut last =
    omega (arith, ap length is_prefix, length-take at text, ap length is_tail, length-drop at text, ap length cut.whole, length-append missed head, ap length last.whole, length-append ending (10 ∷ after))

-- a line of two parts, where the newline stands after the second
joined_line : (head tail ending after rest line : List ℕ) → IsOnePiece head → IsFirstLine tail ending after → rest ≡ head ++ tail → line ≡ take (length head + length ending) rest → IsFirstLine rest line after
joined_line head tail ending after rest line one last is_rest is_line =
    let whole : rest ≡ (head ++ ending) ++ 10 ∷ after = is_rest ∙ ap (λ t. head ++ t) last.whole ∙ sym (append_assoc head ending (10 ∷ after)) in
    let same : line ≡ head ++ ending =
    is_line ∙ ap (λ n. take n rest) (sym (length-append head ending)) ∙ ap (take (length (head ++ ending))) whole ∙ take-append_seam (head ++ ending) (10 ∷ after) in
    record {
      one = subst IsOnePiece (sym same) (All-append (λ b. b ≢ 10) head ending one last.one);
      whole = whole ∙ ap (λ t. t ++ 10 ∷ after) (sym same);
    }

module _ (l : Literals) (normal : IsNormal l) where
  -- where no literal ends in a prefix of a text, no line that ends in it holds one
  pub misses-prefix : (text prefix rest : List ℕ) → text ≡ prefix ++ rest → ((end : ℕ) → 0 < end → end ≤ length prefix → ¬ HasEnd l text end) → AllMiss l prefix
  misses-prefix text prefix rest whole none =
      All-weaker (HasSubslice prefix) (λ line. matches l.folding false l.texts line ≡ false) (λ line s. sym (not_passed (matches l.folding false l.texts line) (λ e.
      let parts : text ≡ s.0 ++ (line ++ (s.1 ++ rest)) = whole ∙ ap (λ u. u ++ rest) s.2 ∙ append_assoc s.0 (line ++ s.1) rest ∙ ap (λ u. s.0 ++ u) (append_assoc line s.1 rest) in
      let size : length prefix ≡ length s.0 + (length line + length s.1) = ap length s.2 ∙ length-append s.0 (line ++ s.1) ∙ ap (λ n. length s.0 + n) (length-append line s.1) in
      let w = end-from_match l normal line ((matching.matches l.folding false l.texts line).0 e) in
      let o = occurs_after l s.0 (line ++ (s.1 ++ rest)) w.2.0 w.0 (occurs_of_prefix l line (s.1 ++ rest) w.2.0 w.0 w.2.1) in
      none (length s.0 + w.0) (omega (arith, w.1)) (omega (arith, w.2.1.ends, size)) (w.2.0, subst (λ u. Occurs l u w.2.0 (length s.0 + w.0)) (sym parts) o)))) (ended_lines prefix) (ended_lines-slices prefix)

  -- where none ends in the text, no line of it holds one
  pub misses-all : (text : List ℕ) → NoEndAfter l text 0 → AllMiss l text
  misses-all text none = misses-prefix text text [] (sym (append-nil text)) (λ end some within. none end some)

  module _ (apart : All IsOnePiece l.texts) (text missed line rest head tail : List ℕ) (end : ℕ) (whole : text ≡ missed ++ (line ++ 10 ∷ rest)) (closed : open_rest missed ≡ [])
      (prefix : text ≡ missed ++ (head ++ tail)) (one : IsOnePiece head) (size : length missed + length head + 1 ≡ end) where
    -- the newline of the line stands after the end of a literal
    line_end : length head ≤ length line
    line_end = elim (crossing line rest [] head tail one (sym (append_cancel_left missed (head ++ tail) (line ++ 10 ∷ rest) (sym prefix ∙ whole)))) [
      | inl before ↦ omega (arith, before)
      | inr after ↦ absurd (omega (arith, after))
    ]

    -- so it is a slice of the line
    pub hit-line : HasEnd l text end → matches l.folding false l.texts line ≡ true
    hit-line h =
        let f = folded l.folding in
        let e = length head + 1 in
        let there : end ≡ length missed + e = omega (arith, size) in
        let later = ends_in_text l apart missed (line ++ 10 ∷ rest) closed e (omega arith) (subst (HasEnd l (missed ++ (line ++ 10 ∷ rest))) there (subst (λ u. HasEnd l u end) whole h)) in
        let o = later.1 in
        let t = o.literal in
        let p = occurs-parts l (line ++ 10 ∷ rest) later.0 e o in
        let some = own_some l normal line later.0 t (slice_get_within l.texts later.0 t o.stands) (get_or_from_slice_get l.texts later.0 t t o.stands) in
        let high : e ≤ length line =
        elim (crossing (map f line) (map f rest) p.before t p.after (one-literal l apart (line ++ 10 ∷ rest) later.0 e o) (sym (map-newline l.folding line rest) ∙ p.whole)) [
          | inl before ↦ omega (arith, before, length-map line f, p.at)
          | inr after ↦ absurd (omega (arith, after, length-map line f, p.at, line_end, some))
        ] in
        (matching.matches l.folding false l.texts line).1 (match-from_end l normal line e (later.0, occurs_in_prefix l line (10 ∷ rest) later.0 e high o))

  -- the line that holds the first end is the first that holds a literal: the bytes before that end, and up to the next
  -- newline
  pub first-hit : (apart : All IsOnePiece l.texts) (text prefix tail missed head ending rest line after : List ℕ) (end : ℕ) → IsNextEnd l text 0 end → prefix ≡ take (end - 1) text → tail ≡ drop (end - 1) text
      → IsLastCut prefix missed head → IsFirstLine tail ending after → rest ≡ drop (length missed) text → line ≡ take (length head + length ending) rest → IsFirstHitLine l text missed line after
  first-hit apart text prefix tail missed head ending rest line after end n is_prefix is_tail cut last is_rest is_line =
      let parts = split_prefix text prefix tail missed head end is_prefix is_tail cut in
      let later : rest ≡ head ++ tail = is_rest ∙ ap (drop (length missed)) parts ∙ drop-append_seam missed (head ++ tail) in
      let first = joined_line head tail ending after rest line cut.one last later is_line in
      let whole : text ≡ missed ++ (line ++ 10 ∷ after) = parts ∙ ap (λ u. missed ++ u) (sym later ∙ first.whole) in
      let size : length missed + length head + 1 ≡ end = omega (arith, n.after, n.within, length-append missed head, ap length cut.whole, ap length is_prefix, length-take (end - 1) text) in
      record {
        whole = whole;
        closed = cut.closed;
        one = first.one;
        misses = misses-prefix text missed (head ++ tail) parts (λ e some within. n.first e some (omega (arith, within, size)));
        hit = hit-line apart text missed line after head tail end whole cut.closed parts cut.one size n.here;
      }

  -- the first line is that line, where some literal ends in it
  pub first-line-hit : (apart : All IsOnePiece l.texts) (text missed line after : List ℕ) (end : ℕ) → 0 < end → HasEnd l text end → missed ≡ [] → IsFirstLine text line after → end ≤ length line → IsFirstHitLine l text missed line after
  first-line-hit apart text missed line after end some here none cut low =
      let same : line ≡ take (length line) text = sym (ap (take (length line)) cut.whole ∙ take-append_seam line (10 ∷ after)) in
      let one : IsOnePiece (take (end - 1) text) = one-shorter text (end - 1) (length line) (omega arith) (subst IsOnePiece same cut.one) in
      let long : length text ≡ length line + length (10 ∷ after) = ap length cut.whole ∙ length-append line (10 ∷ after) in
      let size : 0 + length (take (end - 1) text) + 1 ≡ end = omega (arith, some, low, long, length-take (end - 1) text) in
      subst (λ m. IsFirstHitLine l text m line after) (sym none) (record {
        whole = cut.whole;
        closed = open_rest-nil;
        one = cut.one;
        misses = misses-prefix text [] text refl (λ e more within. absurd (omega (arith, more, within)));
        hit = hit-line apart text [] line after (take (end - 1) text) (drop (end - 1) text) end cut.whole open_rest-nil (sym (take-append-drop (end - 1) text)) one size here;
      })

  -- in a text of ended lines it has a newline
  pub no-hit-open : (text prefix tail missed head : List ℕ) (end : ℕ) → IsNextEnd l text 0 end → prefix ≡ take (end - 1) text → tail ≡ drop (end - 1) text
      → IsLastCut prefix missed head → IsOnePiece tail → open_rest text ≡ [] → ⊥
  no-hit-open text prefix tail missed head end n is_prefix is_tail cut one closed =
      let parts = split_prefix text prefix tail missed head end is_prefix is_tail cut in
      let joined = All-append (λ b. b ≢ 10) head tail cut.one one in
      let none : head ++ tail ≡ [] = sym (open_rest-ended missed (head ++ tail) cut.closed joined) ∙ sym (ap open_rest parts) ∙ closed in
      omega (arith, ap length none, length-append head tail, ap length is_tail, length-drop (end - 1) text, n.after, n.within)
