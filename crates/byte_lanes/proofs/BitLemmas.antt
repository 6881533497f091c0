-- The lowest bit of a mask, and its bits from a place on.
use Rattle.std.proofs.Common.{◌≡◌, ◌↔◌, ℕ, zero, suc, ◌+◌, ◌-◌, ◌*◌, ◌/◌, ◌%◌, ◌^◌, ◌<◌, ◌≤◌, sym, ap, ◌∙◌, arith, bit_and, min, shr-shr, pow_pos, ⊎_elim}
use Rattle.std.specs.Int.{bit_at}
use Rattle.std.proofs.lemmas.Bool.{cases_lt, cases_eq}
use Rattle.std.proofs.lemmas.Nat.Bits.{bit_at_and, bit_at-lt, bit_at_lowest, bit_at-suc, bit_at-zero, bit_at_cat_low, bit_at_cat_high, bit_at_ones, bit_at_ones_above}
use Rattle.std.proofs.Math.Pow.{pow-lt}

-- up to its lowest bit, the bits of a number less 1
pub pred_at_lowest : (l m : ℕ) → bit_at m l ≡ 1 → ((j : ℕ) → j < l → bit_at m j ≡ 0) → bit_at (m - 1) l ≡ 0
pred_at_lowest zero m set low =
    let odd : m % 2 ≡ 1 = sym (bit_at_lowest m) ∙ set in
    let even : (m - 1) % 2 ≡ 0 = omega arith in
    bit_at_lowest (m - 1) ∙ even
pred_at_lowest (suc l) m set low =
    let even : m % 2 ≡ 0 = sym (bit_at_lowest m) ∙ low 0 (omega arith) in
    let half : (m - 1) / 2 ≡ m / 2 - 1 = omega arith in
    bit_at-suc (m - 1) l ∙ ap (λ x. bit_at x l) half
    ∙ pred_at_lowest l (m / 2) (sym (bit_at-suc m l) ∙ set) (λ j h. sym (bit_at-suc m j) ∙ low (suc j) (omega arith))

-- above it nothing changes
pub pred_above_lowest : (l m k : ℕ) → bit_at m l ≡ 1 → ((j : ℕ) → j < l → bit_at m j ≡ 0) → l < k → bit_at (m - 1) k ≡ bit_at m k
pred_above_lowest l m zero set low h = absurd (omega arith)
pred_above_lowest zero m (suc k) set low h =
    let odd : m % 2 ≡ 1 = sym (bit_at_lowest m) ∙ set in
    let half : (m - 1) / 2 ≡ m / 2 = omega arith in
    bit_at-suc (m - 1) k ∙ ap (λ x. bit_at x k) half ∙ sym (bit_at-suc m k)
pred_above_lowest (suc l) m (suc k) set low h =
    let even : m % 2 ≡ 0 = sym (bit_at_lowest m) ∙ low 0 (omega arith) in
    let half : (m - 1) / 2 ≡ m / 2 - 1 = omega arith in
    bit_at-suc (m - 1) k ∙ ap (λ x. bit_at x k) half
    ∙ pred_above_lowest l (m / 2) k (sym (bit_at-suc m l) ∙ set) (λ j g. sym (bit_at-suc m j) ∙ low (suc j) (omega arith)) (omega arith)
    ∙ sym (bit_at-suc m k)

-- the remaining bits once the lowest is cleared
pub others_of_lowest : (m l : ℕ) → bit_at m l ≡ 1 → ((j : ℕ) → j < l → bit_at m j ≡ 0) → (k : ℕ) → (bit_at (bit_and m (m - 1)) k ≡ 1) ↔ ((l < k) × (bit_at m k ≡ 1))
others_of_lowest m l set low k =
    let meet = bit_at_and m (m - 1) k in
    let one = bit_at-lt m k in
    let one_less = bit_at-lt (m - 1) k in (
      λ h.
          let here : bit_at m k ≡ 1 = omega arith in
          let there : bit_at (m - 1) k ≡ 1 = omega arith in (
            ⊎_elim (λ below. absurd (omega (arith, low k below)))
                (λ from. ⊎_elim (λ same. absurd (omega (arith, pred_at_lowest l m set low, sym (ap (λ j. bit_at (m - 1) j) same)))) (λ other. omega arith) (cases_eq l k))
                (cases_lt k l),
            here,
          ),
      λ h.
          let there = pred_above_lowest l m k set low h.0 in
          let here = h.1 in
          omega arith,
    )

-- the bits from a place on
pub bits_from : (m p : ℕ) → m < 2 ^ 64 → (k : ℕ) → (bit_at (m / 2 ^ p * 2 ^ p % 2 ^ 64) k ≡ 1) ↔ ((p ≤ k) × (bit_at m k ≡ 1))
bits_from m p small k =
    let a = m / 2 ^ p in
    let positive = pow_pos p in
    let fits : a * 2 ^ p + 0 < 2 ^ 64 = omega arith in
    let whole : bit_at (a * 2 ^ p % 2 ^ 64) k ≡ bit_at (a * 2 ^ p + 0) k = ap (λ x. bit_at x k) (omega arith) in
    ⊎_elim (λ below.
    let none = whole ∙ bit_at_cat_low a p 0 k below ∙ bit_at-zero k in
    (λ h. absurd (omega arith), λ h. absurd (omega (arith, h.0))))
    (λ from.
    let place : p + (k - p) ≡ k = omega arith in
    let same : bit_at (a * 2 ^ p % 2 ^ 64) k ≡ bit_at m k =
    whole ∙ bit_at_cat_high a p 0 k (omega arith) from ∙ ap (λ x. x % 2) (shr-shr m p (k - p)) ∙ ap (bit_at m) place in
    (λ h. (from, sym same ∙ h), λ h. same ∙ h.1))
    (cases_lt k p)

-- the bits below a place
pub bits_below : (m p : ℕ) → p < 64 → (k : ℕ) → (bit_at (bit_and m (1 * 2 ^ p % 2 ^ 64 - 1)) k ≡ 1) ↔ ((k < p) × (bit_at m k ≡ 1))
bits_below m p low k =
    let fits : 2 ^ p < 2 ^ 64 = pow-lt low in
    let whole : 1 * 2 ^ p % 2 ^ 64 ≡ 2 ^ p = omega arith in
    let ones = ap (λ x. bit_at (x - 1) k) whole in
    let meet = bit_at_and m (1 * 2 ^ p % 2 ^ 64 - 1) k ∙ ap (min (bit_at m k)) ones in
    let bit = bit_at-lt m k in
    ⊎_elim (λ below.
    let one = bit_at_ones p k below in
    (λ h. (below, omega arith), λ h. let set = h.1 in omega arith))
    (λ above.
    let none = bit_at_ones_above p k above in
    (λ h. absurd (omega arith), λ h. absurd (omega (arith, h.0))))
    (cases_lt k p)
