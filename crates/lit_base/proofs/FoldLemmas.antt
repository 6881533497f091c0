-- Folded texts and their parts.
use Rattle.std.proofs.Common.{◌≡◌, ℕ, ◌-◌, ◌≤◌, List, [], ◌∷◌, length, drop, take, refl, sym, ap, ◌∙◌, arith}
use Rattle.std.specs.List.{slice_range}
use Rattle.std.proofs.lemmas.List.{take-map, take-take}
use Rattle.lit_base.specs.declared.fold.Fold.{Fold}
use Rattle.lit_base.specs.declared.fold.Fold.TheVariants.{No}
use Rattle.lit_base.specs.Folding.{folded, folded_text}

-- of a text that folds to a literal, the prefix folds to the literal's prefix
pub prefix_folds : (fold : Fold) (text t : List ℕ) (end back : ℕ) → back ≤ length t → length t ≤ end → folded_text fold (slice_range text (end - length t) end) ≡ t
    → folded_text fold (slice_range text (end - length t) (end - back)) ≡ take (length t - back) t
prefix_folds fold text t end back few begins is =
    let n : ℕ = length t - back in
    let from : ℕ = end - length t in
    let count : end - back - from ≡ n = omega arith in
    ap (λ k. folded_text fold (take k (drop from text))) count
    ∙ ap (folded_text fold) (sym (take-take n (end - from) (drop from text) (omega arith)))
    ∙ sym (take-map (folded fold) n (slice_range text from end))
    ∙ ap (take n) is

-- where nothing is folded, a text is its own folded text
pub unfolded : (text : List ℕ) → folded_text No text ≡ text
unfolded [] = refl
unfolded (b ∷ bs) = ap (λ s. b ∷ s) (unfolded bs)
