-- Marked ends: from bits to their positions, and one end returned after the other.
use Rattle.std.proofs.Common.{◌≡◌, ◌↔◌, ℕ, zero, suc, ◌+◌, ◌-◌, ◌<◌, ◌≤◌, refl, sym, ap, subst, ◌∙◌, arith, ⊎_elim}
use Rattle.std.specs.Int.{bit_at}
use Rattle.std.proofs.lemmas.Bool.{cases_lt, cases_eq}
use Rattle.std.proofs.lemmas.Nat.Bits.{bit_at-suc, bit_at-zero}
use Rattle.byte_lanes.specs.Bits.{SplitsLowest}
use Rattle.byte_lanes.specs.Lanes.{IsMaskOf}
use Rattle.byte_lanes.specs.PlacesAfter.{NoneWithin, IsFirstAfter, AreMarked}

module _ (P : ℕ → Type 0) where
  -- a stretch without places may go before
  pub marked_after_quiet : (from mid first done mask : ℕ) → from ≤ mid → NoneWithin P from mid → AreMarked P mid first done mask → AreMarked P from first done mask
  marked_after_quiet from mid first done mask le quiet m =
      let reached = m.reached in
      record {
        reached = omega arith;
        set = λ k s. let h = m.set k s in (omega (arith, h.0), h.1, h.2);
        all = λ end low high holds.
            ⊎_elim (λ after. m.all end after high holds) (λ before. absurd (quiet end low before holds)) (cases_lt mid end);
      }

  -- a mask without bits marks no place
  pub quiet_where_unmarked : (from first done mask : ℕ) → mask ≡ 0 → AreMarked P from first done mask → NoneWithin P from done
  quiet_where_unmarked from first done mask none m end low high holds =
      let there = (m.all end low high holds).1 in
      absurd (omega (arith, there, ap (λ x. bit_at x (end - first)) none ∙ bit_at-zero (end - first)))

  -- the mask 1 has the lowest bit alone
  bits_of_one : (k : ℕ) → bit_at 1 k ≡ 1 → k ≡ 0
  bits_of_one zero s = refl
  bits_of_one (suc k) s = absurd (omega (arith, s, bit_at-suc 1 k, bit_at-zero k))

  -- one place alone
  pub one_marked : (from place : ℕ) → from < place → NoneWithin P from (place - 1) → P place → AreMarked P from place place 1
  one_marked from place after quiet here = record {
    reached = omega arith;
    set = λ k s.
        let none = bits_of_one k s in
        let same : place ≡ place + k = omega arith in
        (omega arith, omega arith, subst P same here);
    all = λ end low high holds.
        ⊎_elim (λ same. let start : 0 ≡ end - place = omega arith in (omega arith, ap (bit_at 1) (sym start)))
        (λ other. absurd (quiet end low (omega arith) holds)) (cases_eq end place);
  }

  -- the bits from some bit on, of 64 places in a row
  pub marked_by_bits : (from first done mask : ℕ) → from ≤ done → first + 63 ≡ done → first ≤ from + 1
      → ((k : ℕ) → (bit_at mask k ≡ 1) ↔ ((from + 1 ≤ first + k) × (k < 64) × P (first + k))) → AreMarked P from first done mask
  marked_by_bits from first done mask le long start bits = record {
    reached = le;
    set = λ k s. let h = (bits k).0 s in (omega (arith, h.0), omega (arith, h.1), h.2);
    all = λ end low high holds.
        let same : end ≡ first + (end - first) = omega arith in
        (omega arith, (bits (end - first)).1 (omega arith, omega arith, subst P same holds));
  }

  module _ (from first done mask low rest : ℕ) (m : AreMarked P from first done mask) (split : SplitsLowest mask low rest) where
    -- the lowest bit stands for the first place
    pub lowest_is_first : IsFirstAfter P from (first + low)
    lowest_is_first =
        let h = m.set low split.set in
        record {
          after = h.0;
          holds = h.2;
          quiet = λ end above below holds.
              let there = m.all end above (omega (arith, h.1)) holds in
              absurd (omega (arith, there.1, split.lowest (end - first) (omega (arith, there.0))));
        }

    -- the other bits stand for the places after it
    pub others_marked : AreMarked P (first + low) first done rest
    others_marked =
        let h = m.set low split.set in
        record {
          reached = h.1;
          set = λ k s.
              let old = (split.others k).0 s in
              let there = m.set k old.1 in
              (omega (arith, old.0), there.1, there.2);
          all = λ end above high holds.
              let there = m.all end (omega (arith, h.0)) high holds in
              (there.0, (split.others (end - first)).1 (omega (arith, there.0), there.1));
        }

-- the marks of 64 ends, from some position after `from` on, are the marks of the ends after it
pub block_marked : (P : ℕ → Type 0) (from first done whole mask : ℕ) → first + 63 ≡ done → from ≤ done → first ≤ from + 1 → IsMaskOf P first 64 whole
    → ((k : ℕ) → (bit_at mask k ≡ 1) ↔ ((from + 1 ≤ first + k) × (bit_at whole k ≡ 1))) → AreMarked P from first done mask
block_marked P from first done whole mask long reached low known bits =
    marked_by_bits P from first done mask reached long low
    (λ k. (
      λ s. let h = (bits k).0 s in let t = (known k).0 h.1 in (h.0, t.0, t.1),
      λ h. (bits k).1 (h.0, (known k).1 (h.1, h.2)),
    ))
