-- Patterns hold no newline.
use Rattle.std.proofs.Common.{◌≡◌, ℕ, List, [], ◌∷◌, ◌++◌, All, sym, subst}
use Rattle.std.proofs.lemmas.List.Elements.{All-append, All-cons, All-head, All-nil, All-tail}
use Rattle.lit_base.specs.Lines.{IsOnePiece, lines, pieces, without_empty_last}
use Rattle.lit_base.proofs.LineLemmas.{pieces-apart}

-- pieces without an empty last one
kept-apart : (ps : List (List ℕ)) → All IsOnePiece ps → All IsOnePiece (without_empty_last ps)
kept-apart [] all = All-nil IsOnePiece
kept-apart ([] ∷ []) all = All-nil IsOnePiece
kept-apart ((b ∷ bs) ∷ []) all = all
kept-apart (p ∷ q ∷ more) all = All-cons IsOnePiece p (without_empty_last (q ∷ more)) (All-head IsOnePiece p (q ∷ more) all) (kept-apart (q ∷ more) (All-tail IsOnePiece p (q ∷ more) all))

lines-apart : (text : List ℕ) → All IsOnePiece (lines text)
unfolding lines
lines-apart text = kept-apart (pieces text) (pieces-apart text)

-- the pieces of a list after others
pub pieces-after : (old new : List (List ℕ)) (text : List ℕ) → All IsOnePiece old → new ≡ old ++ pieces text → All IsOnePiece new
pieces-after old new text all e = subst (All IsOnePiece) (sym e) (All-append IsOnePiece old (pieces text) all (pieces-apart text))

-- the lines of a file after others
pub lines-after : (old new : List (List ℕ)) (text : List ℕ) → All IsOnePiece old → new ≡ old ++ lines text → All IsOnePiece new
lines-after old new text all e = subst (All IsOnePiece) (sym e) (All-append IsOnePiece old (lines text) all (lines-apart text))
