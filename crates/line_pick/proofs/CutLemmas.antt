-- The lines of a text that is cut: as many as it has newlines, and its open rest.
use Rattle.std.proofs.Common.{◌≡◌, ℕ, ◌+◌, ◌<◌, eqb, List, [], ◌∷◌, ◌++◌, length, refl, sym, ap, ◌∙◌, arith, append-nil, append_assoc}
use Rattle.std.specs.List.{count_by}
use Rattle.std.proofs.lemmas.List.{length-append}
use Rattle.std.proofs.lemmas.List.Splits.{length-slice_split}
use Rattle.lit_base.specs.Lines.{IsOnePiece, ended_lines, open_rest, pieces, without_last}
use Rattle.lit_base.proofs.EndedLemmas.{ended_lines-append, ended_lines-none, open_rest-newline}
use Rattle.text_lines.specs.Cutting.{AreNewlines, IsFirstLine, IsLastCut}
use Rattle.text_lines.proofs.Newlines.{one-append, open_rest-ended}

-- no byte is seen
pub no-newlines : (text : List ℕ) → AreNewlines text 0
no-newlines text = record { seen = 0; few = omega arith; within = omega arith; bits = refl }

-- there are as many ended lines as newlines
length-without_last : (ps : List (List ℕ)) → 0 < length ps → length (without_last ps) + 1 ≡ length ps
length-without_last [] some = absurd (omega arith)
length-without_last (p ∷ []) some = refl
length-without_last (p ∷ q ∷ more) some = let rest = length-without_last (q ∷ more) (omega arith) in omega (arith, rest)

pub length-ended_lines : (text : List ℕ) → length (ended_lines text) ≡ count_by (λ b. eqb b 10) text
unfolding ended_lines
length-ended_lines text =
    let count = length-slice_split (λ b. eqb b 10) text in
    omega (arith, count, length-without_last (pieces text) (omega (arith, count)))

-- an open rest adds no line to those before it
pub ended_lines-ended : (ended rest : List ℕ) → open_rest ended ≡ [] → IsOnePiece rest → ended_lines (ended ++ rest) ≡ ended_lines ended
ended_lines-ended ended rest closed one =
    ended_lines-append ended rest ∙ ap (λ r. ended_lines ended ++ ended_lines (r ++ rest)) closed ∙ ap (λ ls. ended_lines ended ++ ls) (ended_lines-none rest one) ∙ append-nil (ended_lines ended)

-- its lines and its open rest
pub ended_lines-cut : {text ended rest : List ℕ} → IsLastCut text ended rest → ended_lines text ≡ ended_lines ended
ended_lines-cut {text} {ended} {rest} cut = ap ended_lines cut.whole ∙ ended_lines-ended ended rest cut.closed cut.one

pub open_rest-cut : {text ended rest : List ℕ} → IsLastCut text ended rest → open_rest text ≡ rest
open_rest-cut {text} {ended} {rest} cut = ap open_rest cut.whole ∙ open_rest-ended ended rest cut.closed cut.one

pub length-cut : {text ended rest : List ℕ} → IsLastCut text ended rest → length text ≡ length ended + length rest
length-cut {text} {ended} {rest} cut = ap length cut.whole ∙ length-append ended rest

-- bytes before the first line belong to it
pub first-held : (held : List ℕ) {text line rest : List ℕ} → IsOnePiece held → IsFirstLine text line rest → IsFirstLine (held ++ text) (held ++ line) rest
first-held held {text} {line} {rest} one cut = record {
  one = one-append held line one cut.one;
  whole = ap (λ t. held ++ t) cut.whole ∙ sym (append_assoc held line (10 ∷ rest));
}

pub open_rest-first : {text line rest : List ℕ} → IsFirstLine text line rest → open_rest text ≡ open_rest rest
open_rest-first {text} {line} {rest} cut = ap open_rest cut.whole ∙ open_rest-newline line rest cut.one
