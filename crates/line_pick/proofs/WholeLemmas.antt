-- Lines that are literals as a whole have an entry for their length and first byte.
use Rattle.std.proofs.Common.{◌≡◌, ℕ, ◌<◌, Bool, true, false, List, [], ◌∷◌, length, map, get_or, sym, ap, ◌∙◌, subst, arith}
use Rattle.std.proofs.lemmas.List.{get_or_default, length-map}
use Rattle.lit_base.specs.Folding.{folded, folded_text}
use Rattle.lit_base.specs.Literals.{Literals, IsNormal, literal_at}
use Rattle.lit_base.specs.Selected.{matches}
use Rattle.lit_base.proofs.MatchLemmas.{matching}
use Rattle.text_lines.specs.Cutting.{StartsWith}
use Rattle.line_pick.specs.WholeLines.{AreStartsOf, HasStart, start_of}
use Rattle.text_lines.proofs.LiteralParts.{not_passed, own_folded, own_some}

-- the first byte of a text that starts with a line of some bytes
first-byte : (f : ℕ → ℕ) (text line : List ℕ) → StartsWith text line → 0 < length line → get_or (map f line) 0 0 ≡ f (get_or text 0 0)
first-byte f text [] s some = absurd (omega (arith, some))
first-byte f text (b ∷ bs) s some = ap (λ t. f (get_or t 0 0)) (sym s.whole)

-- where a line has no entry, it is no literal
pub no-start : (l : Literals) → IsNormal l → (starts : List Bool) → AreStartsOf l starts → (text line : List ℕ) → StartsWith text line
    → get_or starts (start_of (length line) (folded l.folding (get_or text 0 0))) false ≡ false → false ≡ matches l.folding true l.texts line
no-start l normal starts are text line s none = not_passed (matches l.folding true l.texts line) (λ e.
    let w = (matching.matches l.folding true l.texts line).0 e in
    let t = w.1 in
    let all : folded_text l.folding line ≡ t = w.4 ∙ own_folded l normal line w.0 t w.2 w.3 in
    let size : length line ≡ length t = sym (length-map line (folded l.folding)) ∙ ap length all in
    let some : 0 < length line = omega (arith, size, own_some l normal line w.0 t w.2 w.3) in
    let byte : folded l.folding (get_or text 0 0) ≡ get_or t 0 0 = sym (first-byte (folded l.folding) text line s some) ∙ ap (λ u. get_or u 0 0) all in
    let here : literal_at l w.0 ≡ t = sym (get_or_default l.texts w.0 t [] w.2) ∙ w.3 in
    let entry : get_or starts (start_of (length t) (get_or t 0 0)) false ≡ true = subst (HasStart starts) here (are w.0 w.2) in
    let same : get_or starts (start_of (length line) (folded l.folding (get_or text 0 0))) false ≡ true =
    ap (λ n. get_or starts (start_of n (folded l.folding (get_or text 0 0))) false) size ∙ ap (λ b. get_or starts (start_of (length t) b) false) byte ∙ entry in
    let both : true ≡ false = sym same ∙ none in
    absurd (cc))
