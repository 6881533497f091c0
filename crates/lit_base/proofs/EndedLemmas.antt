-- The lines that newlines ended, and the open rest after the last newline.
use Rattle.std.proofs.Common.{◌≡◌, ◌≢◌, ℕ, ◌<◌, true, false, cond, eqb, List, [], ◌∷◌, ◌++◌, length, All, refl, sym, ap, ◌∙◌, arith}
use Rattle.std.specs.List.{onto_first}
use Rattle.std.proofs.lemmas.List.Splits.{slice_split_at, slice_split_none}
use Rattle.std.proofs.lemmas.List.Elements.{All-nil, All-cons, All-head, All-tail}
use Rattle.lit_base.specs.Lines.{IsOnePiece, ended_lines, last_line, last_piece, lines, open_rest, pieces, without_empty_last, without_last}
use Rattle.lit_base.proofs.LineLemmas.{none_passes, pieces-apart}
use Rattle.lit_base.proofs.PieceLemmas.{some_piece}

-- a piece that others follow stays, and the last piece is theirs
without_last-cons : (p : List ℕ) (ps : List (List ℕ)) → 0 < length ps → without_last (p ∷ ps) ≡ p ∷ without_last ps
without_last-cons p [] some = absurd (omega arith)
without_last-cons p (q ∷ more) some = refl

last_piece-cons : (p : List ℕ) (ps : List (List ℕ)) → 0 < length ps → last_piece (p ∷ ps) ≡ last_piece ps
last_piece-cons p [] some = absurd (omega arith)
last_piece-cons p (q ∷ more) some = refl

-- the same after several pieces
without_last-append : (ps qs : List (List ℕ)) → 0 < length qs → without_last (ps ++ qs) ≡ ps ++ without_last qs
without_last-append [] qs some = refl
without_last-append (p ∷ ps) qs some =
    without_last-cons p (ps ++ qs) (longer ps) ∙ ap (λ rs. p ∷ rs) (without_last-append ps qs some)
  where
    longer : (rs : List (List ℕ)) → 0 < length (rs ++ qs)
    longer [] = some
    longer (r ∷ rs) = omega arith

last_piece-append : (ps qs : List (List ℕ)) → 0 < length qs → last_piece (ps ++ qs) ≡ last_piece qs
last_piece-append [] qs some = refl
last_piece-append (p ∷ ps) qs some = last_piece-cons p (ps ++ qs) (longer ps) ∙ last_piece-append ps qs some
  where
    longer : (rs : List (List ℕ)) → 0 < length (rs ++ qs)
    longer [] = some
    longer (r ∷ rs) = omega arith

-- a newline in front of a text, and another byte
after_newline : (ps whole : List (List ℕ)) (more : List ℕ) → 0 < length ps → whole ≡ without_last ps ++ pieces (last_piece ps ++ more)
    → [] ∷ whole ≡ without_last ([] ∷ ps) ++ pieces (last_piece ([] ∷ ps) ++ more)
after_newline [] whole more some e = absurd (omega arith)
after_newline (p ∷ ps) whole more some e = ap (λ rs. [] ∷ rs) e

after_byte : (b : ℕ) (ps whole : List (List ℕ)) (more : List ℕ) → 0 < length ps → eqb b 10 ≡ false → whole ≡ without_last ps ++ pieces (last_piece ps ++ more)
    → onto_first b whole ≡ without_last (onto_first b ps) ++ pieces (last_piece (onto_first b ps) ++ more)
after_byte b [] whole more some other e = absurd (omega arith)
after_byte b (p ∷ []) whole more some other e = ap (onto_first b) e ∙ sym (ap (λ t. cond t ([] ∷ pieces (p ++ more)) (onto_first b (pieces (p ++ more)))) other)
after_byte b (p ∷ q ∷ ps) whole more some other e = ap (onto_first b) e

-- the pieces of a text in two parts: those that newlines of the first part end, then the pieces of its open rest with
-- the second part
pieces-append : (text more : List ℕ) → pieces (text ++ more) ≡ without_last (pieces text) ++ pieces (last_piece (pieces text) ++ more)
pieces-append [] more = refl
pieces-append (b ∷ bs) more =
    elim (eqb b 10) as (λ t. eqb b 10 ≡ t → cond t ([] ∷ pieces (bs ++ more)) (onto_first b (pieces (bs ++ more)))
    ≡ without_last (cond t ([] ∷ pieces bs) (onto_first b (pieces bs))) ++ pieces (last_piece (cond t ([] ∷ pieces bs) (onto_first b (pieces bs))) ++ more)) [
      | true ↦ λ newline. after_newline (pieces bs) (pieces (bs ++ more)) more (some_piece bs) (pieces-append bs more)
      | false ↦ λ other. after_byte b (pieces bs) (pieces (bs ++ more)) more (some_piece bs) other (pieces-append bs more)
    ] refl

pub ended_lines-append : (text more : List ℕ) → ended_lines (text ++ more) ≡ ended_lines text ++ ended_lines (open_rest text ++ more)
unfolding ended_lines open_rest
ended_lines-append text more =
    ap without_last (pieces-append text more)
    ∙ without_last-append (without_last (pieces text)) (pieces (last_piece (pieces text) ++ more)) (some_piece (last_piece (pieces text) ++ more))

pub open_rest-append : (text more : List ℕ) → open_rest (text ++ more) ≡ open_rest (open_rest text ++ more)
unfolding open_rest
open_rest-append text more =
    ap last_piece (pieces-append text more)
    ∙ last_piece-append (without_last (pieces text)) (pieces (last_piece (pieces text) ++ more)) (some_piece (last_piece (pieces text) ++ more))

-- a newline ends a line
pieces-newline : (line rest : List ℕ) → IsOnePiece line → pieces (line ++ 10 ∷ rest) ≡ line ∷ pieces rest
pieces-newline line rest one = slice_split_at (λ b. eqb b 10) line 10 rest (none_passes line one) refl

pub ended_lines-newline : (line rest : List ℕ) → IsOnePiece line → ended_lines (line ++ 10 ∷ rest) ≡ line ∷ ended_lines rest
unfolding ended_lines
ended_lines-newline line rest one = ap without_last (pieces-newline line rest one) ∙ without_last-cons line (pieces rest) (some_piece rest)

pub open_rest-newline : (line rest : List ℕ) → IsOnePiece line → open_rest (line ++ 10 ∷ rest) ≡ open_rest rest
unfolding open_rest
open_rest-newline line rest one = ap last_piece (pieces-newline line rest one) ∙ last_piece-cons line (pieces rest) (some_piece rest)

-- a text without a newline has no ended line, and is open
pub ended_lines-none : (line : List ℕ) → IsOnePiece line → ended_lines line ≡ []
unfolding ended_lines
ended_lines-none line one = ap without_last (slice_split_none (λ b. eqb b 10) line (none_passes line one))

pub open_rest-none : (line : List ℕ) → IsOnePiece line → open_rest line ≡ line
unfolding open_rest
open_rest-none line one = ap last_piece (slice_split_none (λ b. eqb b 10) line (none_passes line one))

-- of pieces without a newline, the last is one
last-apart : (ps : List (List ℕ)) → All IsOnePiece ps → IsOnePiece (last_piece ps)
last-apart [] all = All-nil (λ c. c ≢ 10)
last-apart (p ∷ []) all = All-head IsOnePiece p [] all
last-apart (p ∷ q ∷ more) all = last-apart (q ∷ more) (All-tail IsOnePiece p (q ∷ more) all)

-- what holds of all pieces holds of all but the last
pub All-without_last : (P : List ℕ → Type 0) (ps : List (List ℕ)) → All P ps → All P (without_last ps)
All-without_last P [] all = All-nil P
All-without_last P (p ∷ []) all = All-nil P
All-without_last P (p ∷ q ∷ more) all = All-cons P p (without_last (q ∷ more)) (All-head P p (q ∷ more) all) (All-without_last P (q ∷ more) (All-tail P p (q ∷ more) all))

pub open_rest-apart : (text : List ℕ) → IsOnePiece (open_rest text)
unfolding open_rest
open_rest-apart text = last-apart (pieces text) (pieces-apart text)

pub ended_lines-apart : (text : List ℕ) → All IsOnePiece (ended_lines text)
unfolding ended_lines
ended_lines-apart text = All-without_last IsOnePiece (pieces text) (pieces-apart text)

-- without an empty last piece: all but the last, and the last if it is not empty
without_empty_last-split : (ps : List (List ℕ)) → without_empty_last ps ≡ without_last ps ++ last_line (last_piece ps)
without_empty_last-split [] = refl
without_empty_last-split ([] ∷ []) = refl
without_empty_last-split ((b ∷ bs) ∷ []) = refl
without_empty_last-split ([] ∷ q ∷ more) = ap (λ rs. [] ∷ rs) (without_empty_last-split (q ∷ more))
without_empty_last-split ((b ∷ bs) ∷ q ∷ more) = ap (λ rs. (b ∷ bs) ∷ rs) (without_empty_last-split (q ∷ more))

pub lines-ended_open : (text : List ℕ) → lines text ≡ ended_lines text ++ last_line (open_rest text)
unfolding lines ended_lines open_rest
lines-ended_open text = without_empty_last-split (pieces text)
