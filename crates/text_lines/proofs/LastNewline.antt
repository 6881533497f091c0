-- The last newline of a text, by the highest bit that is set for its last 64 bytes.
use Rattle.std.proofs.Common.{◌≡◌, ℕ, suc, ◌+◌, ◌-◌, ◌<◌, ◌≤◌, Bool, true, false, cond, eqb, List, length, map, take, drop, get_or, inl, inr, refl, sym, ap, ◌∙◌, subst, arith, ◌^◌, ◌/◌, ◌%◌}
use Rattle.std.specs.Int.Count.{count_leading_zeros}
use Rattle.std.specs.Simd.Lanes.{mask_l}
use Rattle.std.proofs.Math.Nat.{eq-zero-or-pos, two-pow-succ}
use Rattle.std.proofs.lemmas.Nat.{leading_top}
use Rattle.std.proofs.lemmas.Nat.Bits.{bit_at_above, bit_at-zero}
use Rattle.std.proofs.lemmas.Bool.{eqb-false, eqb-true}
use Rattle.std.proofs.lemmas.Simd.{bit_mask_l, mask_l-lt}
use Rattle.std.proofs.lemmas.List.{get_or-drop, get_or-map, length-drop, length-map, take_all}
use Rattle.memchr.proofs.lemmas.BitLemmas.{bit_at_top}
use Rattle.lit_base.specs.Lines.{IsOnePiece}

-- what a bit says of its lane
pub lane-set : (b : Bool) → ◌≡◌ {A = ℕ} (cond b 1 0) 1 → b ≡ true
lane-set true e = refl
lane-set false e = absurd (omega arith)

pub lane-unset : (b : Bool) → ◌≡◌ {A = ℕ} (cond b 1 0) 0 → b ≡ false
lane-unset true e = absurd (omega arith)
lane-unset false e = refl

-- the last `zeros` lanes are not set, and the lane before them is
record IsTop (lanes : List Bool) (zeros : ℕ) : Type 0 where
  few : zeros ≤ 64
  above : (k : ℕ) → 64 ≤ k + zeros → get_or lanes k false ≡ false
  here : zeros < 64 → get_or lanes (64 - zeros - 1) false ≡ true

-- as many as zeros lead to the highest bit that is set
mask-top : (lanes : List Bool) → length lanes ≡ 64 → IsTop lanes (count_leading_zeros 64 (mask_l lanes))
unfolding count_leading_zeros
mask-top lanes size =
    elim (eq-zero-or-pos (mask_l lanes)) [
      | inl none ↦
          let all : count_leading_zeros 64 (mask_l lanes) ≡ 64 = ap (count_leading_zeros 64) none in
          record {
            few = omega (arith, all);
            above = λ k high. lane-unset (get_or lanes k false) (sym (bit_mask_l lanes k) ∙ ap (λ n. n / 2 ^ k % 2) none ∙ bit_at-zero k);
            here = λ lt. absurd (omega (arith, all, lt));
          }
      | inr some ↦
          let fits : mask_l lanes < 2 ^ 64 = subst (λ n. mask_l lanes < 2 ^ n) size (mask_l-lt lanes) in
          let top = leading_top 64 (mask_l lanes) some fits in
          let zeros = count_leading_zeros 64 (mask_l lanes) in
          let place : 64 - zeros - 1 ≡ top.0 = omega (arith, top.1) in
          record {
            few = omega (arith, top.1);
            above = λ k high. lane-unset (get_or lanes k false) (sym (bit_mask_l lanes k) ∙ bit_at_above (mask_l lanes) (suc top.0) k top.3 (omega (arith, top.1, high)));
            here = λ lt. lane-set (get_or lanes (64 - zeros - 1) false)
                (sym (bit_mask_l lanes (64 - zeros - 1)) ∙ ap (λ j. mask_l lanes / 2 ^ j % 2) place ∙ bit_at_top (mask_l lanes) top.0 top.2 (omega (arith, top.3, two-pow-succ top.0)));
          }
    ]

-- the last 64 bytes, as lanes
last-lanes : (text lanes : List ℕ) → 64 ≤ length text → lanes ≡ take ((length text - 64 + 64) - (length text - 64)) (drop (length text - 64) text) → lanes ≡ drop (length text - 64) text
last-lanes text lanes long is =
    let at = length text - 64 in
    let size : (at + 64) - at ≡ 64 = omega arith in
    is ∙ ap (λ n. take n (drop at text)) size ∙ take_all 64 (drop at text) (omega (arith, length-drop at text))

-- a lane says whether its byte is a newline
last-lane : (text : List ℕ) (i d : ℕ) → 64 ≤ length text → i < 64 → get_or (map (λ b. eqb b 10) (drop (length text - 64) text)) i false ≡ eqb (get_or text ((length text - 64) + i) d) 10
last-lane text i d long low =
    get_or-map (λ b. eqb b 10) (drop (length text - 64) text) i d false (omega (arith, length-drop (length text - 64) text)) ∙ ap (λ b. eqb b 10) (get_or-drop (length text - 64) text i d)

-- the lanes' zeros say where the last newline stands
module _ (text lanes : List ℕ) (bits : ℕ) (long : 64 ≤ length text) (mask : bits ≡ mask_l (map (λ b. eqb b 10) lanes)) (is : lanes ≡ take ((length text - 64 + 64) - (length text - 64)) (drop (length text - 64) text)) where
  top : IsTop (map (λ b. eqb b 10) (drop (length text - 64) text)) (count_leading_zeros 64 bits)
  top =
      let found : List Bool = map (λ b. eqb b 10) (drop (length text - 64) text) in
      let whole : bits ≡ mask_l found = mask ∙ ap (λ l. mask_l (map (λ b. eqb b 10) l)) (last-lanes text lanes long is) in
      subst (λ n. IsTop found (count_leading_zeros 64 n)) (sym whole)
      (mask-top found (length-map (drop (length text - 64) text) (λ b. eqb b 10) ∙ omega (arith, length-drop (length text - 64) text)))

  -- after it stands none
  pub last-apart : IsOnePiece (drop (length text - count_leading_zeros 64 bits) text)
  last-apart k d inside e =
      let t = top in
      let few : count_leading_zeros 64 bits ≤ 64 = t.few in
      let zeros = count_leading_zeros 64 bits in
      let at = length text - 64 in
      let i = (64 - zeros) + k in
      let room : i < 64 = omega (arith, length-drop (length text - zeros) text, inside, few) in
      let place : at + i ≡ (length text - zeros) + k = omega (arith, few, long) in
      eqb-false (get_or text (at + i) d) 10 (sym (last-lane text i d long room) ∙ t.above i (omega (arith, few)))
      (ap (λ n. get_or text n d) place ∙ sym (get_or-drop (length text - zeros) text k d) ∙ e)

  -- and it is one
  pub last-found : count_leading_zeros 64 bits < 64 → get_or text (length text - count_leading_zeros 64 bits - 1) 0 ≡ 10
  last-found some =
      let t = top in
      let zeros = count_leading_zeros 64 bits in
      let at = length text - 64 in
      let i = 64 - zeros - 1 in
      let place : at + i ≡ length text - zeros - 1 = omega (arith, some, long) in
      ap (λ n. get_or text n 0) (sym place) ∙ eqb-true _ _ (sym (last-lane text i 0 long (omega (arith, some))) ∙ t.here some)
