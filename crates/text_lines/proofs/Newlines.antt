-- Where newlines stand: a text is cut at its first newline, and after its last one.
use Rattle.std.proofs.Common.{◌≡◌, ◌≢◌, ℕ, ◌+◌, ◌-◌, ◌<◌, ◌≤◌, true, not, eqb, min, List, [], ◌∷◌, ◌++◌, length, take, drop, get_or, None, Some, sym, ap, ◌∙◌, subst, arith, take-append-drop, eq-eqb}
use Rattle.std.specs.List.{prefix_len}
use Rattle.std.proofs.Math.Seq.{take-add}
use Rattle.std.proofs.lemmas.Bool.{eqb-false, eqb-true}
use Rattle.std.proofs.lemmas.Simd.{run_in_chunk_fails, run_in_chunk_stops}
use Rattle.std.proofs.lemmas.List.{get_or-take, get_or-drop, take_more, get_or_default, take_min, length-take, length-drop}
use Rattle.std.proofs.lemmas.List.Elements.{All-append}
use Rattle.memchr.specs.Find.{IsLastByte, is_byte}
use Rattle.lit_base.specs.Lines.{IsOnePiece, open_rest}
use Rattle.text_lines.specs.Cutting.{IsLastCut}
use Rattle.lit_base.proofs.EndedLemmas.{open_rest-append, open_rest-newline, open_rest-none, open_rest-apart}

-- a byte of a text is a newline by the search's test
is_newline : (text : List ℕ) (k d : ℕ) → k < length text → get_or text k d ≡ 10 → eqb (get_or text k 0) 10 ≡ true
is_newline text k d inside e = eq-eqb (get_or text k 0) 10 (get_or_default text k 0 d inside ∙ e)

-- after a newline nothing is open
pub open_rest-closed : (text : List ℕ) → open_rest (text ++ 10 ∷ []) ≡ []
open_rest-closed text = open_rest-append text (10 ∷ []) ∙ open_rest-newline (open_rest text) [] (open_rest-apart text) ∙ open_rest-none [] (λ k d inside. absurd (omega arith))

-- up to a newline, with it, nothing is open
pub closed-at : (text : List ℕ) (at : ℕ) → at < length text → get_or text at 0 ≡ 10 → open_rest (take (at + 1) text) ≡ []
closed-at text at inside newline = ap open_rest (take_more text at 0 inside ∙ ap (λ b. take at text ++ b ∷ []) newline) ∙ open_rest-closed (take at text)

-- after the last newline there is none
pub after-one : (text : List ℕ) (at : ℕ) → IsLastByte (is_byte 10) text (Some at) → IsOnePiece (drop (at + 1) text)
after-one text at h k d inside e =
    let room : (at + 1) + k < length text = omega (arith, length-drop (at + 1) text) in
    h.0.after ((at + 1) + k) (omega arith) room (is_newline text ((at + 1) + k) d room (sym (get_or-drop (at + 1) text k d) ∙ e))

pub none_last : (text : List ℕ) → IsLastByte (is_byte 10) text None → IsOnePiece text
none_last text h k d inside e = h k (omega arith) inside (is_newline text k d inside e)

-- an empty text is no line and nothing open
pub open_rest-nil : open_rest [] ≡ []
open_rest-nil = open_rest-none [] (λ k d inside. absurd (omega arith))

-- a rest after ended lines is the open rest of both
pub open_rest-ended : (ended rest : List ℕ) → open_rest ended ≡ [] → IsOnePiece rest → open_rest (ended ++ rest) ≡ rest
open_rest-ended ended rest closed one = open_rest-append ended rest ∙ ap (λ r. open_rest (r ++ rest)) closed ∙ open_rest-none rest one

-- two parts of a line are one
pub one-append : (prefix back : List ℕ) → IsOnePiece prefix → IsOnePiece back → IsOnePiece (prefix ++ back)
one-append prefix back h k = All-append (λ b. b ≢ 10) prefix back h k

-- a text cut where nothing is open before the cut, and no newline stands after it
pub last-cut : (text ended rest : List ℕ) (at : ℕ) → ended ≡ take at text → rest ≡ drop at text → open_rest (take at text) ≡ [] → IsOnePiece (drop at text) → IsLastCut text ended rest
last-cut text ended rest at prefix back closed one = record {
  whole = sym (take-append-drop at text) ∙ ap (λ b. b ++ drop at text) (sym prefix) ∙ ap (λ r. ended ++ r) (sym back);
  closed = ap open_rest prefix ∙ closed;
  one = subst IsOnePiece (sym back) one;
}

-- a prefix of a text is as much of it as its length says
pub prefix-whole : (text prefix : List ℕ) (n : ℕ) → prefix ≡ take n text → prefix ≡ take (length prefix) text
prefix-whole text prefix n is =
    let size : length prefix ≡ min n (length text) = ap length is ∙ length-take n text in
    is ∙ sym (take_min n text) ∙ ap (λ k. take k text) (sym size)

-- a shorter prefix of a text without newlines has none
pub one-shorter : (text : List ℕ) (m n : ℕ) → m ≤ n → IsOnePiece (take n text) → IsOnePiece (take m text)
one-shorter text m n le one k d inside e =
    let below : k < m = omega (arith, length-take m text, inside) in
    let room : k < length (take n text) = omega (arith, length-take m text, length-take n text, inside) in
    one k d room (get_or-take n text k d (omega arith) ∙ sym (get_or-take m text k d below) ∙ e)

-- the bytes before the first newline of a load
pub lead-one : (text : List ℕ) (r : ℕ) → 64 ≤ length text → r ≡ prefix_len (λ b. not (eqb b 10)) (take 64 text) → IsOnePiece (take r text)
lead-one text r long is k d inside e =
    let below : k < r = omega (arith, length-take r text, inside) in
    eqb-false (get_or text k d) 10 (run_in_chunk_fails (λ b. eqb b 10) text 0 64 r d (omega arith) is k (omega arith) (omega arith)) (sym (get_or-take r text k d below) ∙ e)

pub lead-stops : (text : List ℕ) (r : ℕ) → 64 ≤ length text → r ≡ prefix_len (λ b. not (eqb b 10)) (take 64 text) → r < 64 → get_or text r 0 ≡ 10
lead-stops text r long is few =
    let here : 0 + r ≡ r = omega arith in
    subst (λ k. get_or text k 0 ≡ 10) here (eqb-true _ _ (run_in_chunk_stops (λ b. eqb b 10) text 0 64 r 0 (omega arith) is few))

-- two stretches without newlines, one after the other
pub one-further : (text rest : List ℕ) (near far : ℕ) → 64 ≤ near → rest ≡ drop 64 text → IsOnePiece (take near text) → IsOnePiece (take far rest) → IsOnePiece (take (64 + far) text)
one-further text rest near far low is first second =
    let joined : take 64 text ++ take far rest ≡ take (64 + far) text = ap (λ r. take 64 text ++ take far r) is ∙ sym (take-add 64 far text) in
    subst IsOnePiece joined (one-append (take 64 text) (take far rest) (one-shorter text 64 near low first) second)
