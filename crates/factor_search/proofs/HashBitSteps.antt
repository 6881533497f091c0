-- Bits that a search visits, and the positions that remain.
use Rattle.std.proofs.Common.{◌≡◌, ℕ, ◌+◌, ◌-◌, ◌*◌, ◌/◌, ◌%◌, ◌^◌, ◌<◌, ◌≤◌, List, inl, inr, sym, ap, ◌∙◌, subst, arith}
use Rattle.std.specs.Int.{bit_at}
use Rattle.std.specs.Int.RustNames.{bit_or}
use Rattle.std.proofs.lemmas.Bool.{cases_lt}
use Rattle.std.proofs.lemmas.Nat.{pow_pos}
use Rattle.std.proofs.lemmas.Nat.Bits.{bit_at-lt, bit_at_cat_high, bit_at_cat_low, bit_at_or}
use Rattle.lane_filter.specs.Bits.{SplitsLowest}
use Rattle.lit_base.specs.Literals.{Literals}
use Rattle.lit_base.specs.Occurrences.{HasEnd}

-- each end has a bit yet, of which the lowest is split off
module _ (l : Literals) (text : List ℕ) (seen count rest : ℕ) (marked : (other : ℕ) → other < count → HasEnd l text (seen + 1 + other) → bit_at rest other ≡ 1) (low others : ℕ) (split : SplitsLowest rest low others) where
  -- before the lowest bit there is none
  pub none_below : (other : ℕ) → other < count → HasEnd l text (seen + 1 + other) → low ≤ other
  none_below other near here = elim (cases_lt other low) [
    | inl sooner ↦ absurd (omega (arith, split.lowest other sooner, marked other near here))
    | inr later ↦ later
  ]

  -- if there is none there either, each has one of the other bits
  pub later_marked : ¬ HasEnd l text (seen + 1 + low) → (other : ℕ) → other < count → HasEnd l text (seen + 1 + other) → bit_at others other ≡ 1
  later_marked none other near here = elim (cases_lt low other) [
    | inl later ↦ (split.others other).1 (later, marked other near here)
    | inr same ↦
        let there : other ≡ low = omega (arith, same, none_below other near here) in
        absurd (none (subst (λ o. HasEnd l text (seen + 1 + o)) there here))
  ]

-- bits are combined with others that are shifted above them, in a word
module _ (hash_bits more at back : ℕ) (short : back < 64) where
  abbrev joined_hash_bits : ℕ
  joined_hash_bits = bit_or hash_bits (more * 2 ^ at % 2 ^ 64)

  -- the bits below stay
  pub marked_below : bit_at hash_bits back ≡ 1 → bit_at joined_hash_bits back ≡ 1
  marked_below set = omega (arith, bit_at_or hash_bits (more * 2 ^ at % 2 ^ 64) back, set, bit_at-lt (more * 2 ^ at % 2 ^ 64) back)

  -- and each bit above is shifted up
  pub marked_above : at ≤ back → bit_at more (back - at) ≡ 1 → bit_at joined_hash_bits back ≡ 1
  marked_above above set =
      let shifted : ℕ = more * 2 ^ at in
      let whole : shifted / 2 ^ 64 * 2 ^ 64 + shifted % 2 ^ 64 ≡ shifted = omega arith in
      let plain : shifted + 0 ≡ shifted = omega arith in
      let low : bit_at shifted back ≡ bit_at (shifted % 2 ^ 64) back = ap (λ n. bit_at n back) (sym whole) ∙ bit_at_cat_low (shifted / 2 ^ 64) 64 (shifted % 2 ^ 64) back short in
      let high : bit_at shifted back ≡ bit_at more (back - at) = ap (λ n. bit_at n back) (sym plain) ∙ bit_at_cat_high more at 0 back (pow_pos at) above in
      omega (arith, bit_at_or hash_bits (shifted % 2 ^ 64) back, low, high, set, bit_at-lt hash_bits back)
