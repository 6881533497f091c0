-- The bits of a comparison of numbers with one number.
use Rattle.std.proofs.Common.{◌≡◌, ℕ, Bool, true, false, cond, ltb, List, length, get_or, map, replicate, ◌<◌, ◌≤◌, ◌-◌, ◌%◌, ◌^◌, inl, inr, w16, w64, refl, sym, ap, ◌∙◌, subst, arith}
use Rattle.std.specs.Prelude.{◌↔◌}
use Rattle.std.specs.Int.{bit_at, trailing_ones}
use Rattle.std.specs.Simd.Lanes.{mask_l, top, zip2}
use Rattle.std.proofs.lemmas.Bool.{cases_lt}
use Rattle.std.proofs.lemmas.Bool.Decides.{Decides-ltb}
use Rattle.std.proofs.lemmas.List.{get_or-map, length-map}
use Rattle.std.proofs.lemmas.Nat.Bits.{bit_at-trailing_ones, bit_at_above}
use Rattle.std.proofs.lemmas.Simd.{bit_mask_l, bitmask_splat, mask_l-lt}

-- a test as a bit
set_if_less : (x y : ℕ) (b : Bool) → ltb x y ≡ b → (cond {A = ℕ} b 1 0 ≡ 1) ↔ (x < y)
set_if_less x y true is = (λ _. (Decides-ltb x y).0 is, λ _. refl)
set_if_less x y false is = (λ set. absurd (omega (arith, set)), λ less. let yes : false ≡ true = sym is ∙ (Decides-ltb x y).1 less in (cc))

-- as many numbers are below another as there are bits in a row, and the next is not
pub quiet_run : (v : List ℕ) (q run : ℕ) → length v ≡ 32 → run ≡ trailing_ones w64 (mask_l (map (top 15) (zip2 (λ a b. cond (ltb a b) (2 ^ 16 - 1) 0) v (replicate 32 q))) % 2 ^ 64)
    → (run ≤ 32) × ((k : ℕ) → k < run → get_or v k 0 < q) × (run < 32 → q ≤ get_or v run 0)
quiet_run v q run long is =
    let tests : List Bool = map (λ x. ltb x q) v in
    let bits : ℕ = mask_l tests in
    let few : bits < 2 ^ 32 = subst (λ k. bits < 2 ^ k) (length-map v (λ x. ltb x q) ∙ long) (mask_l-lt tests) in
    let same : run ≡ trailing_ones w64 bits = is ∙ ap (trailing_ones w64) (bitmask_splat w16 ltb v 32 q long (omega arith)) in
    let ones = bit_at-trailing_ones w64 bits (omega (arith, few)) in
    let less : (k : ℕ) → k < 32 → (bit_at bits k ≡ 1) ↔ (get_or v k 0 < q) = λ k low.
    let bit : bit_at bits k ≡ cond {A = ℕ} (ltb (get_or v k 0) q) 1 0 =
    bit_mask_l tests k ∙ ap (λ b. cond {A = ℕ} b 1 0) (get_or-map (λ x. ltb x q) v k 0 false (omega (arith, low, long))) in
    let test = set_if_less (get_or v k 0) q (ltb (get_or v k 0) q) refl in
    (λ set. test.0 (sym bit ∙ set), λ below. bit ∙ test.1 below) in
    let within : run ≤ 32 = elim (cases_lt 32 run) [
      | inl past ↦ absurd (omega (arith, ones.2 32 (omega (arith, past, same)), bit_at_above bits 32 32 few (omega arith)))
      | inr fits ↦ fits
    ] in (
      within,
      λ k low. (less k (omega (arith, low, within))).0 (ones.2 k (omega (arith, low, same))),
      λ low. elim (cases_lt (get_or v run 0) q) [
        | inl below ↦ absurd (omega (arith, (less run low).1 below, ap (bit_at bits) same, ones.1))
        | inr more ↦ more
      ],
    )
