-- Words joined by a byte.
use Rattle.std.proofs.Common.{◌≡◌, ℕ, ◌+◌, ◌<◌, List, [], ◌∷◌, ◌++◌, length, get_or, take, map, refl, ap, ◌∙◌, sym, append_assoc}
use Rattle.std.specs.List.{join_with_byte}
use Rattle.std.specs.Fmt.{decimal}
use Rattle.std.proofs.lemmas.List.{map_more}

-- one more word stands after the byte
pub join_with_byte-push : (c : ℕ) (w : List ℕ) (ws : List (List ℕ)) (y : List ℕ) → join_with_byte c ((w ∷ ws) ++ y ∷ []) ≡ join_with_byte c (w ∷ ws) ++ c ∷ y
join_with_byte-push c w [] y = refl
join_with_byte-push c w (v ∷ ws) y = ap (λ (t : List ℕ). w ++ c ∷ t) (join_with_byte-push c v ws y) ∙ sym (append_assoc w (c ∷ join_with_byte c (v ∷ ws)) (c ∷ y))

-- a list of numbers goes on after a word: one number more
pub numbers_more : (w : List ℕ) (xs : List ℕ) (i : ℕ) → i < length xs → join_with_byte 32 (w ∷ map decimal (take (i + 1) xs)) ≡ join_with_byte 32 (w ∷ map decimal (take i xs)) ++ 32 ∷ decimal (get_or xs i 0)
numbers_more w xs i lt = ap (λ (ws : List (List ℕ)). join_with_byte 32 (w ∷ ws)) (map_more decimal xs i 0 lt) ∙ join_with_byte-push 32 w (map decimal (take i xs)) (decimal (get_or xs i 0))

-- a loop's step that writes one more number of a list
pub writes_number : (old before after w xs : List ℕ) (i : ℕ) → i < length xs → before ≡ old ++ join_with_byte 32 (w ∷ map decimal (take i xs)) → after ≡ before ++ 32 ∷ decimal (get_or xs i 0) → after ≡ old ++ join_with_byte 32 (w ∷ map decimal (take (i + 1) xs))
writes_number old before after w xs i lt so_far one =
    one ∙ ap (λ (t : List ℕ). t ++ 32 ∷ decimal (get_or xs i 0)) so_far ∙ append_assoc old (join_with_byte 32 (w ∷ map decimal (take i xs))) (32 ∷ decimal (get_or xs i 0)) ∙ ap (λ (t : List ℕ). old ++ t) (sym (numbers_more w xs i lt))
