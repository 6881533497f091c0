-- Where literals occur in a piece after the last bytes of a text.
use Rattle.std.proofs.Common.{◌≡◌, ℕ, ◌+◌, ◌-◌, ◌<◌, List, ◌++◌, length, take, sym, ap, ◌∙◌, subst, arith}
use Rattle.std.proofs.lemmas.List.{length-drop, length-take, append_assoc, take-append-drop}
use Rattle.lit_base.specs.Literals.{Literals}
use Rattle.lit_base.specs.Occurrences.{Occurs}
use Rattle.lit_plan.specs.Bounds.{HasBounds, carry_of}
use Rattle.text_ends.proofs.Occurring.{occurs_after, occurs_in_rest}
use Rattle.flow_scan.specs.Tails.{last_bytes}

-- a text without its last bytes
pub before_last : ℕ → List ℕ → List ℕ
before_last carry text = take (length text - carry) text

-- a text and a piece are the bytes before the last ones, then the last bytes, then the piece
regrouped : (carry : ℕ) (text piece : List ℕ) → text ++ piece ≡ before_last carry text ++ (last_bytes carry text ++ piece)
unfolding before_last
regrouped carry text piece =
    ap (λ t. t ++ piece) (sym (take-append-drop (length text - carry) text)) ∙ append_assoc (take (length text - carry) text) (last_bytes carry text) piece

before_len : (carry : ℕ) (text : List ℕ) → length (before_last carry text) ≡ length text - carry
unfolding before_last
before_len carry text = omega (arith, length-take (length text - carry) text)

pub last_len : (carry : ℕ) (text : List ℕ) → length (last_bytes carry text) ≡ length text - (length text - carry)
last_len carry text = length-drop (length text - carry) text

-- a literal that ends in a piece after a text ends there after the text's last bytes
pub occurs_after_last : (l : Literals) (text piece : List ℕ) (place d : ℕ) → HasBounds l → 0 < d → Occurs l (text ++ piece) place (length text + d) → Occurs l (last_bytes (carry_of l) text ++ piece) place (length (last_bytes (carry_of l) text) + d)
occurs_after_last l text piece place d f some o =
    let carry = carry_of l in
    let prefix = before_last carry text in
    let last = last_bytes carry text in
    let at : length text + d ≡ length prefix + (length last + d) = omega (arith, before_len carry text, last_len carry text) in
    let moved : Occurs l (prefix ++ (last ++ piece)) place (length prefix + (length last + d)) =
    subst (λ e. Occurs l (prefix ++ (last ++ piece)) place e) at (subst (λ t. Occurs l t place (length text + d)) (regrouped carry text piece) o) in
    occurs_in_rest l prefix (last ++ piece) place (length last + d) moved
    (omega (arith, f.fits place moved.literal moved.stands, moved.begins, before_len carry text, last_len carry text))

-- and the other way round
pub occurs_after_all : (l : Literals) (carry : ℕ) (text piece : List ℕ) (place d : ℕ) → Occurs l (last_bytes carry text ++ piece) place (length (last_bytes carry text) + d) → Occurs l (text ++ piece) place (length text + d)
occurs_after_all l carry text piece place d o =
    let prefix = before_last carry text in
    let last = last_bytes carry text in
    let at : length prefix + (length last + d) ≡ length text + d = omega (arith, before_len carry text, last_len carry text) in
    let moved : Occurs l (prefix ++ (last ++ piece)) place (length prefix + (length last + d)) = occurs_after l prefix (last ++ piece) place (length last + d) o in
    subst (λ e. Occurs l (text ++ piece) place e) at (subst (λ t. Occurs l t place (length prefix + (length last + d))) (sym (regrouped carry text piece)) moved)
