-- Blocks of positions: marked by the filter, by one of two tests or by both, and stretches without places.
use Rattle.std.proofs.Common.{◌≡◌, ◌↔◌, ℕ, suc, ◌+◌, ◌-◌, ◌<◌, ◌≤◌, ◌∷◌, [], List, length, get_or, sym, subst, ◌∙◌, arith, ⊎_elim, ◌⊎◌, inl, inr, bit_and, bit_or, ◌≢◌}
use Rattle.std.specs.Int.{bit_at}
use Rattle.std.proofs.lemmas.Bool.{cases_lt, cases_eq}
use Rattle.std.proofs.lemmas.Nat.Bits.{bit_at_and, bit_at_or, bit_at-lt}
use Rattle.nib_mask.specs.declared.masks.Masks.{Masks}
use Rattle.nib_mask.specs.Tables.{table_value}
use Rattle.nib_mask.specs.Candidates.{IsCandidate, filter_number_at}
use Rattle.byte_lanes.specs.Lanes.{IsMaskOf, SeesLanes, SetsLanes}
use Rattle.byte_lanes.specs.Filtered.{IsMarked}
use Rattle.byte_lanes.specs.PlacesAfter.{NoneWithin}

module _ (P : ℕ → Type 0) where
  -- two stretches without places, one after the other
  pub quiet_on : (from mid to : ℕ) → NoneWithin P from mid → NoneWithin P mid to → NoneWithin P from to
  quiet_on from mid to p q end low high holds =
      ⊎_elim (λ after. q end after high holds) (λ before. p end low before holds) (cases_lt mid end)

  -- a number of positions in a row at which it does not hold
  pub quiet_in_row : (from count : ℕ) → ((k : ℕ) → k < count → ¬ P (from + 1 + k)) → NoneWithin P from (from + count)
  quiet_in_row from count none end low high holds =
      let place : end ≡ from + 1 + (end - (from + 1)) = omega arith in
      none (end - (from + 1)) (omega arith) (subst P place holds)

-- the three bytes before an end from the third on stand in the text
bytes_of_end : (masks : Masks) (text : List ℕ) (place end : ℕ) → end ≡ place + 3
    → filter_number_at masks (0 ∷ 0 ∷ []) text end ≡ table_value masks (get_or text place 0) (get_or text (place + 1) 0) (get_or text (place + 2) 0)
bytes_of_end masks text place end at =
    let padded : List ℕ = 0 ∷ 0 ∷ text in
    let third : end - 1 ≡ suc (suc place) = omega arith in
    let second : end ≡ suc (suc (place + 1)) = omega arith in
    let last : end + 1 ≡ suc (suc (place + 2)) = omega arith in
    λ i. table_value masks (get_or padded (third i) 0) (get_or padded (second i) 0) (get_or padded (last i) 0)

-- from the third end on, a candidate is a place whose three bytes have a filter number that is not zero
pub candidate_is_marked : (masks : Masks) (text : List ℕ) (place end : ℕ) → end ≡ place + 3 → end ≤ length text → IsMarked masks text place ↔ IsCandidate masks text end
candidate_is_marked masks text place end at within =
    let same = bytes_of_end masks text place end at in (
      λ h. record { some = omega arith; within = within; marked = λ none. h (sym same ∙ none) },
      λ h none. h.marked (same ∙ none),
    )

-- the marks of 64 positions of a text are the marks of the ends three positions later
pub marks_of_ends : (masks : Masks) (text : List ℕ) (place first mask : ℕ) → first ≡ place + 3 → first + 63 ≤ length text → IsMaskOf (IsMarked masks text) place 64 mask
    → IsMaskOf (IsCandidate masks text) first 64 mask
marks_of_ends masks text place first mask start within known k =
    let at : (k < 64) → IsMarked masks text (place + k) ↔ IsCandidate masks text (first + k) =
    λ l. candidate_is_marked masks text (place + k) (first + k) (omega arith) (omega arith) in (
      λ s. let t = (known k).0 s in (t.0, (at t.0).0 t.1),
      λ h. (known k).1 (h.0, (at h.0).1 h.1),
    )

-- the bits that one of two masks has stand for the ends that one of two tests passes
pub either_set : (P Q : ℕ → Type 0) (first one other : ℕ) → IsMaskOf P first 64 one → IsMaskOf Q first 64 other → IsMaskOf (λ end. P end ⊎ Q end) first 64 (bit_or one other)
either_set P Q first one other of_one of_other k =
    let joined = bit_at_or one other k in
    let small = bit_at-lt one k in
    let small_other = bit_at-lt other k in (
      λ s.
          elim (cases_eq (bit_at one k) 1) [
            | inl set ↦ let known = (of_one k).0 set in (known.0, inl known.1)
            | inr clear ↦ let known = (of_other k).0 (omega arith) in (known.0, inr known.1)
          ],
      λ (l, holds).
          elim holds [
            | inl left ↦ let set = (of_one k).1 (l, left) in omega arith
            | inr right ↦ let set = (of_other k).1 (l, right) in omega arith
          ],
    )

-- the bits that both masks have stand for the ends that both tests pass
pub both_set : (P Q : ℕ → Type 0) (first one other : ℕ) → IsMaskOf P first 64 one → IsMaskOf Q first 64 other → IsMaskOf (λ end. P end × Q end) first 64 (bit_and one other)
both_set P Q first one other of_one of_other k =
    let meet = bit_at_and one other k in
    let small = bit_at-lt one k in
    let small_other = bit_at-lt other k in (
      λ s.
          let left = (of_one k).0 (omega arith) in
          let right = (of_other k).0 (omega arith) in
          (left.0, (left.1, right.1)),
      λ (l, (here, there)).
          let left = (of_one k).1 (l, here) in
          let right = (of_other k).1 (l, there) in
          omega arith,
    )

-- one of 128 ends sets a lane of the four vectors of 32 ends
pub set_in_four : (P : ℕ → Type 0) (answer : Type 0) (first : ℕ) (one two three four : List ℕ) → SetsLanes P first one → SetsLanes P (first + 32) two
    → SetsLanes P (first + 64) three → SetsLanes P (first + 96) four → SeesLanes one answer → SeesLanes two answer → SeesLanes three answer → SeesLanes four answer
    → (k : ℕ) → k < 128 → P (first + k) → answer
set_in_four P answer first one two three four in_one in_two in_three in_four sees_one sees_two sees_three sees_four k l holds =
    let later : (by : ℕ) → by ≤ k → P (first + by + (k - by)) =
    λ by le. let same : first + k ≡ first + by + (k - by) = omega arith in subst P same holds in
    let set : (lane : ℕ) → lane ≡ 255 → lane ≢ 0 = λ lane is none. absurd (omega (arith, is, none)) in
    elim (cases_lt k 32) [
      | inl low ↦ sees_one k low (set _ (in_one k low holds))
      | inr from_32 ↦ elim (cases_lt k 64) [
        | inl low ↦ sees_two (k - 32) (omega arith) (set _ (in_two (k - 32) (omega arith) (later 32 from_32)))
        | inr from_64 ↦ elim (cases_lt k 96) [
          | inl low ↦ sees_three (k - 64) (omega arith) (set _ (in_three (k - 64) (omega arith) (later 64 from_64)))
          | inr from_96 ↦ sees_four (k - 96) (omega arith) (set _ (in_four (k - 96) (omega arith) (later 96 from_96)))
        ]
      ]
    ]
