-- A buffer whose prefix holds bytes, with some taken off the start.
use Rattle.std.proofs.Common.{◌≡◌, ℕ, ◌+◌, ◌-◌, ◌≤◌, List, length, take, drop, sym, ap, ◌∙◌, zero-add, arith}
use Rattle.std.specs.List.{copy_within}
use Rattle.std.proofs.lemmas.List.{drop-take, length-drop}
use Rattle.std.proofs.lemmas.List.Edits.{take-paste}

-- the bytes after the first, moved to the start
pub skipped : (xs : List ℕ) (count len : ℕ) → count ≤ len → len ≤ length xs → take (len - count) (copy_within xs count len 0) ≡ drop count (take len xs)
skipped xs count len le within =
    let whole : count + (len - count) ≡ len = omega arith in
    ap (λ (k : ℕ). take k (copy_within xs count len 0)) (sym (zero-add (len - count)))
    ∙ take-paste xs 0 (drop count xs) (len - count) (omega arith) (omega (arith, length-drop count xs))
    ∙ sym (drop-take count (len - count) xs) ∙ ap (λ (k : ℕ). drop count (take k xs)) whole
