-- The words of four that lack a bit.
use Rattle.std.proofs.Common.{◌≡◌, ℕ, ◌-◌, ◌%◌, ◌^◌, ◌<◌, List, Bool, true, false, not, cond, eqb, length, get_or, map, replicate, refl, sym, ap, ◌∙◌, subst, arith, w64}
use Rattle.std.specs.Int.{bit_at}
use Rattle.std.specs.Simd.Lanes.{mask_l, top, zip2}
use Rattle.std.proofs.lemmas.Bool.{eqb-true}
use Rattle.std.proofs.lemmas.List.{get_or-map, length-map}
use Rattle.std.proofs.lemmas.Simd.{bit_mask_l, bitmask_splat, mask_l-lt}

-- the mask of the words that are not all ones
abbrev pub lacking_mask : List ℕ → ℕ
lacking_mask words = mask_l (map (top 63) (zip2 (λ m n. cond (not (eqb m n)) (2 ^ 64 - 1) 0) words (replicate 4 (2 ^ 64 - 1)))) % 2 ^ 64

-- the mask is the test, word by word
lacking_tests : (words : List ℕ) → length words ≡ 4 → lacking_mask words ≡ mask_l (map (λ x. not (eqb x (2 ^ 64 - 1))) words)
lacking_tests words four = bitmask_splat w64 (λ m n. not (eqb m n)) words 4 (2 ^ 64 - 1) four (omega arith)

-- the mask has no bits but the four of the words
pub lacking_few : (words : List ℕ) → length words ≡ 4 → lacking_mask words < 16
lacking_few words four =
    let tests : List Bool = map (λ x. not (eqb x (2 ^ 64 - 1))) words in
    let long : length tests ≡ 4 = length-map words (λ x. not (eqb x (2 ^ 64 - 1))) ∙ four in
    let small : mask_l tests < 2 ^ 4 = subst (λ n. mask_l tests < 2 ^ n) long (mask_l-lt tests) in
    omega (arith, small, lacking_tests words four)

-- a test that fails shows that both numbers are equal
unset_alike : (x y : ℕ) (b : Bool) → eqb x y ≡ b → cond {A = ℕ} (not b) 1 0 ≡ 0 → x ≡ y
unset_alike x y true same unset = eqb-true x y same
unset_alike x y false same unset = absurd (omega (arith, unset))

-- and where a word has no bit there, it has all its own bits
pub lacking_full : (words : List ℕ) (i : ℕ) → length words ≡ 4 → i < 4 → bit_at (lacking_mask words) i ≡ 0 → get_or words i 0 ≡ 2 ^ 64 - 1
lacking_full words i four below unset =
    let full : ℕ = 2 ^ 64 - 1 in
    let tests : List Bool = map (λ x. not (eqb x full)) words in
    let test : get_or tests i false ≡ not (eqb (get_or words i 0) full) = get_or-map (λ x. not (eqb x full)) words i 0 false (omega (arith, below, four)) in
    unset_alike (get_or words i 0) full (eqb (get_or words i 0) full) refl
    (sym (ap (λ b. cond b 1 0) test) ∙ sym (bit_mask_l tests i) ∙ sym (ap (λ m. bit_at m i) (lacking_tests words four)) ∙ unset)
