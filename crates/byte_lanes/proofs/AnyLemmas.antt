-- Whether a byte is not zero: by the bits of lanes, and after places that are.
use Rattle.std.proofs.Common.{◌≡◌, ◌≢◌, ◌↔◌, ℕ, ◌+◌, ◌-◌, ◌^◌, ◌<◌, ◌≤◌, List, length, get_or, drop, sym, ap, ◌∙◌, arith, w64, length-drop, ⊎_elim}
use Rattle.std.specs.Int.{bit_at, trailing_zeros}
use Rattle.std.specs.List.{Any}
use Rattle.std.proofs.lemmas.Bool.{cases_lt, cases_eq}
use Rattle.std.proofs.lemmas.Grind.{get_or_default_zero}
use Rattle.std.proofs.lemmas.List.{get_or-drop, get_or_past}
use Rattle.std.proofs.lemmas.Nat.Bits.{bit_at-trailing_zeros, bit_at-zero}
use Rattle.byte_lanes.specs.Lanes.{HasLanes, HoldsBelow}

-- a byte that is not zero, at its place
pub any_at : (xs : List ℕ) (k : ℕ) → k < length xs → get_or xs k 0 ≢ 0 → Any (λ byte. byte ≢ 0) xs
any_at xs k l set = (k, get_or xs k 0, l, get_or_default_zero xs k (get_or xs k 0) l, set)

module _ (lanes : List ℕ) (f : ℕ → ℕ) (mask : ℕ) (p : HasLanes lanes f) (bits : (k : ℕ) → (bit_at mask k ≡ 1) ↔ (get_or lanes k 0 ≢ 0)) where
  -- where the mask has a bit, a lane is not zero
  pub some_set : 0 < mask → mask < 2 ^ 64 → (k : ℕ) × (k < 32) × (f k ≢ 0)
  some_set some small =
      let k = trailing_zeros w64 mask in
      let set = (bits k).0 (bit_at-trailing_zeros w64 mask some small).1 in
      ⊎_elim (λ (l : k < 32). (k, l, λ none. set (p.each k l ∙ none)))
      (λ (past : 32 ≤ k). absurd (set (get_or_past lanes k 0 (omega (arith, p.long)))))
      (cases_lt k 32)

  -- where it has none, all are
  pub none_set : mask ≡ 0 → (k : ℕ) → k < 32 → f k ≡ 0
  none_set none k l =
      let clear : bit_at mask k ≡ 0 = ap (λ m. bit_at m k) none ∙ bit_at-zero k in
      ⊎_elim (λ zero. zero)
      (λ (set : f k ≢ 0). let there = (bits k).1 (λ empty. set (sym (p.each k l) ∙ empty)) in absurd (omega (arith, there, clear)))
      (cases_eq (f k) 0)

-- zeros in front do not matter
pub any_after : (xs : List ℕ) (at : ℕ) → at ≤ length xs → HoldsBelow (λ _. 0) at xs → Any (λ byte. byte ≢ 0) (drop at xs) ↔ Any (λ byte. byte ≢ 0) xs
any_after xs at le zeros = (
  λ (k, x, l, is, set).
      let within : at + k < length xs = omega (arith, length-drop at xs) in
      (at + k, x, within, sym (get_or-drop at xs k x) ∙ is, set),
  λ (k, x, l, is, set).
      ⊎_elim (λ (below : k < at). absurd (set (sym is ∙ get_or_default_zero xs k x l ∙ zeros k below)))
      (λ (from : at ≤ k).
      let place : at + (k - at) ≡ k = omega arith in
      (k - at, x, omega (arith, length-drop at xs), get_or-drop at xs (k - at) x ∙ ap (λ j. get_or xs j x) place ∙ is, set))
      (cases_lt k at),
)
