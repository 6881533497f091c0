-- The newlines in the first bytes of a text, by the bits of a mask.
use Rattle.std.proofs.Common.{◌≡◌, ℕ, ◌+◌, ◌-◌, ◌<◌, ◌≤◌, Bool, true, false, cond, eqb, List, length, map, take, drop, get_or, inl, inr, sym, ap, ◌∙◌, arith, ◌^◌, ◌/◌, ◌%◌, w64}
use Rattle.std.specs.Int.{bit_at, trailing_zeros}
use Rattle.std.specs.Simd.Lanes.{mask_l}
use Rattle.std.proofs.lemmas.Nat.{shr-shr}
use Rattle.std.proofs.lemmas.Nat.Bits.{bit_at-trailing_zeros}
use Rattle.std.proofs.lemmas.Bool.{cases_lt, eqb-false, eqb-true}
use Rattle.std.proofs.lemmas.Simd.{bit_mask_l}
use Rattle.std.proofs.lemmas.List.{drop-map, drop-take, get_or-map, get_or-take, get_or_past, length-drop, length-map, length-take}
use Rattle.lit_base.specs.Lines.{IsOnePiece}
use Rattle.text_lines.specs.Cutting.{AreNewlines}
use Rattle.text_lines.proofs.Counts.{mask_l-drop}
use Rattle.text_lines.proofs.LastNewline.{lane-set, lane-unset}

-- the first 64 bytes
pub first-newlines : (text lanes : List ℕ) (mask : ℕ) → 64 ≤ length text → mask ≡ mask_l (map (λ b. eqb b 10) lanes) → lanes ≡ take 64 text → AreNewlines text mask
first-newlines text lanes mask long bits is = record { seen = 64; few = omega arith; within = long; bits = bits ∙ ap (λ l. mask_l (map (λ b. eqb b 10) l)) is }

module _ (text : List ℕ) (mask : ℕ) (n : AreNewlines text mask) where
  abbrev lanes : List Bool
  lanes = map (λ b. eqb b 10) (take n.seen text)

  size : length lanes ≡ n.seen
  size = length-map (take n.seen text) (λ b. eqb b 10) ∙ omega (arith, length-take n.seen text, n.within)

  -- a bit says whether its byte is a newline
  bit : (k : ℕ) → mask / 2 ^ k % 2 ≡ cond (get_or lanes k false) 1 0
  bit k = ap (λ m. m / 2 ^ k % 2) n.bits ∙ bit_mask_l lanes k

  lane : (k d : ℕ) → k < n.seen → get_or lanes k false ≡ eqb (get_or text k d) 10
  lane k d low = get_or-map (λ b. eqb b 10) (take n.seen text) k d false (omega (arith, length-take n.seen text, n.within)) ∙ ap (λ b. eqb b 10) (get_or-take n.seen text k d low)

  module _ (some : 0 < mask) (fits : mask < 2 ^ 64) where
    lowest : (trailing_zeros w64 mask < 64) × (bit_at mask (trailing_zeros w64 mask) ≡ 1) × ((i : ℕ) → i < trailing_zeros w64 mask → bit_at mask i ≡ 0)
    lowest = bit_at-trailing_zeros w64 mask some fits

    set : get_or lanes (trailing_zeros w64 mask) false ≡ true
    set = lane-set _ (sym (bit (trailing_zeros w64 mask)) ∙ lowest.1)

    pub first-seen : trailing_zeros w64 mask < n.seen
    first-seen = elim (cases_lt (trailing_zeros w64 mask) n.seen) [
      | inl below ↦ below
      | inr past ↦ let none : true ≡ false = sym set ∙ get_or_past lanes (trailing_zeros w64 mask) false (omega (arith, size, past)) in absurd (cc)
    ]

    -- the lowest bit is the first newline
    pub first-here : get_or text (trailing_zeros w64 mask) 0 ≡ 10
    first-here = eqb-true _ _ (sym (lane (trailing_zeros w64 mask) 0 first-seen) ∙ set)

    pub first-apart : IsOnePiece (take (trailing_zeros w64 mask) text)
    first-apart k d inside e =
        let below : k < trailing_zeros w64 mask = omega (arith, length-take (trailing_zeros w64 mask) text) in
        let none : get_or lanes k false ≡ false = lane-unset _ (sym (bit k) ∙ lowest.2 k below) in
        eqb-false (get_or text k d) 10 (sym (lane k d (omega (arith, below, first-seen))) ∙ none) (sym (get_or-take (trailing_zeros w64 mask) text k d below) ∙ e)

    -- and what remains above it is the mask of the text after it
    pub rest-newlines : (end : ℕ) (after : List ℕ) → end ≡ trailing_zeros w64 mask → after ≡ drop (end + 1) text → AreNewlines after (mask / 2 ^ end / 2 ^ 1)
    rest-newlines end after is cut =
        let at : end < n.seen = omega (arith, is, first-seen) in
        let parts : n.seen ≡ (end + 1) + (n.seen - (end + 1)) = omega (arith, at) in
        record {
          seen = n.seen - (end + 1);
          few = omega (arith, n.few);
          within = omega (arith, n.within, ap length cut, length-drop (end + 1) text);
          bits = ap (λ m. m / 2 ^ end / 2 ^ 1) n.bits ∙ shr-shr (mask_l lanes) end 1 ∙ mask_l-drop lanes (end + 1)
              ∙ ap mask_l (drop-map (λ b. eqb b 10) (end + 1) (take n.seen text)
              ∙ ap (λ l. map (λ b. eqb b 10) l) (ap (λ k. drop (end + 1) (take k text)) parts ∙ drop-take (end + 1) (n.seen - (end + 1)) text ∙ ap (take (n.seen - (end + 1))) (sym cut)));
        }
