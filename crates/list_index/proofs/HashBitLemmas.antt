-- Tables of bits by the hashes of keys: one more bit.
use Rattle.std.proofs.Common.{◌≡◌, ℕ, ◌+◌, ◌*◌, ◌%◌, ◌^◌, ◌<◌, List, length, get_or, replicate, set, inl, inr, sym, ap, ◌∙◌, subst, arith, below_more, get_or-set_same, get_or-set_other}
use Rattle.std.specs.Int.{bit_at, w8}
use Rattle.std.specs.Int.RustNames.{bit_or}
use Rattle.std.proofs.lemmas.Bool.{cases_eq, cases_lt}
use Rattle.std.proofs.lemmas.List.{get_or-replicate, get_or_past, length-replicate}
use Rattle.std.proofs.lemmas.Nat.Bits.{bit_at-lt, bit_at-zero, bit_at_or, bit_at_set_same, bit_at_set_other}
use Rattle.list_index.specs.HashBits.{AreKeyBits, HasBit, IsSet}
use Rattle.list_index.specs.Suffixes.{hash_of}

-- a bit of a number of a table is set
module _ (table : List ℕ) (number byte bit : ℕ) (room : number < length table) (read : byte ≡ get_or table number 0) (small : bit < 8) where
  abbrev with_bit : ℕ
  with_bit = bit_or byte (1 * 2 ^ bit % 256)

  -- it has the bit
  bit_now : HasBit (set table number with_bit) number bit
  bit_now = ap (λ w. bit_at w bit) (get_or-set_same table number with_bit 0 room) ∙ bit_at_set_same w8 byte bit small

  -- and each other bit is as before
  other_bit : (other place : ℕ) → ((other ≡ number) × (place ≡ bit) → ⊥) → bit_at (get_or (set table number with_bit) other 0) place ≡ bit_at (get_or table other 0) place
  other_bit other place apart = elim (cases_eq other number) [
    | inr elsewhere ↦ ap (λ w. bit_at w place) (get_or-set_other table number other with_bit 0 elsewhere)
    | inl here ↦
        ap (λ k. bit_at (get_or (set table number with_bit) k 0) place) here
        ∙ ap (λ w. bit_at w place) (get_or-set_same table number with_bit 0 room)
        ∙ bit_at_set_other w8 byte bit small place (λ there. apart (here, there))
        ∙ ap (λ w. bit_at w place) (read ∙ ap (λ k. get_or table k 0) (sym here))
  ]

  pub bit_is_set : IsSet table (set table number with_bit) number bit
  bit_is_set = record {
    set = bit_now;
    kept = λ other place old. elim (cases_eq other number) [
      | inr apart ↦ other_bit other place (λ both. apart both.0) ∙ old
      | inl here ↦ elim (cases_eq place bit) [
        | inr apart ↦ other_bit other place (λ both. apart both.1) ∙ old
        | inl there ↦ subst (λ k. HasBit (set table number with_bit) k place) (sym here) (subst (HasBit (set table number with_bit) number) (sym there) bit_now)
      ]
    ];
    only = λ other place now. elim (cases_eq other number) [
      | inr apart ↦ inl (sym (other_bit other place (λ both. apart both.0)) ∙ now)
      | inl here ↦ elim (cases_eq place bit) [
        | inr apart ↦ inl (sym (other_bit other place (λ both. apart both.1)) ∙ now)
        | inl there ↦ inr (here, there)
      ]
    ];
  }

-- a bit of either of two numbers is one of both together
pub bit_of_left : (a b i : ℕ) → bit_at a i ≡ 1 → bit_at (bit_or a b) i ≡ 1
bit_of_left a b i set = omega (arith, bit_at_or a b i, set, bit_at-lt (bit_or a b) i)

pub bit_of_right : (a b i : ℕ) → bit_at b i ≡ 1 → bit_at (bit_or a b) i ≡ 1
bit_of_right a b i set = omega (arith, bit_at_or a b i, set, bit_at-lt (bit_or a b) i)

-- a table of zeros has the bits of no place
pub no_key_bits : (bits : ℕ) (key_of bit_of : ℕ → ℕ) (table : List ℕ) → table ≡ replicate (2 ^ bits) 0 → AreKeyBits bits key_of bit_of 0 table
no_key_bits bits key_of bit_of table zeros = record {
  room = ap (λ (t : List ℕ). length t) zeros ∙ length-replicate {A = ℕ} (2 ^ bits) 0;
  has = λ place low. absurd (omega (arith, low));
  only = λ number bit now.
      let byte : get_or table number 0 ≡ 0 = ap (λ t. get_or t number 0) zeros ∙ elim (cases_lt number (2 ^ bits)) [
        | inl inside ↦ get_or-replicate (2 ^ bits) number 0 0 inside
        | inr past ↦ get_or_past (replicate (2 ^ bits) 0) number 0 (omega (arith, length-replicate {A = ℕ} (2 ^ bits) 0, past))
      ] in
      absurd (omega (arith, ap (λ b. bit_at b bit) byte, bit_at-zero bit, now));
}

-- with the bit of the next place it has those of one place more
pub more_key_bits : (bits : ℕ) (key_of bit_of : ℕ → ℕ) (count key bit : ℕ) (old new : List ℕ) → AreKeyBits bits key_of bit_of count old → key ≡ key_of count → bit ≡ bit_of count → length new ≡ length old → IsSet old new (hash_of bits key) bit
    → AreKeyBits bits key_of bit_of (count + 1) new
more_key_bits bits key_of bit_of count key bit old new are key_is bit_is len more = record {
  room = len ∙ are.room;
  has = below_more _ _
      (λ place low. more.kept _ _ (are.has place low))
      (subst (λ k. HasBit new (hash_of bits k) (bit_of count)) key_is (subst (HasBit new (hash_of bits key)) bit_is more.set));
  only = λ number other now. elim (more.only number other now) [
    | inl before ↦ let is = are.only number other before in record { place = is.place; within = omega (arith, is.within); hash = is.hash; is = is.is }
    | inr next ↦ record { place = count; within = omega arith; hash = next.0 ∙ ap (hash_of bits) key_is; is = next.1 ∙ bit_is }
  ];
}
