-- What look-ups in the wide tables give the places of a text.
use Rattle.std.proofs.Common.{inl, inr, bit_or, ◌≡◌, ◌≢◌, ◌↔◌, ℕ, ◌+◌, ◌-◌, ◌/◌, ◌%◌, ◌<◌, ◌≤◌, ◌++◌, List, length, get_or, sym, ap, ◌∙◌, arith, bit_and, length-append, ⊎_elim}
use Rattle.std.specs.Int.{bit_at}
use Rattle.std.proofs.lemmas.Bool.{cases_lt}
use Rattle.std.proofs.lemmas.Nat.Bits.{bit_at-zero, bit_at_or, same_from_bits}
use Rattle.std.proofs.lemmas.List.{get_or_past, get_or_append_left, get_or-append_right}
use Rattle.nib_mask.specs.declared.masks.Masks.{Masks}
use Rattle.nib_mask.specs.Tables.{value_at, table_value}
use Rattle.byte_lanes.specs.Filtered.{value_from}
use Rattle.byte_lanes.specs.Lanes.{HasLanes, HoldsBelow}
use Rattle.std.specs.Simd.Lanes.{put_chunk}
use Rattle.std.proofs.lemmas.Simd.{get_or-put_chunk_below, get_or-put_chunk_at}
use Rattle.byte_lanes.proofs.LaneLemmas.{lanes_named}

-- two vectors, one after the other, hold 64 numbers
pub joined_lanes : (low high : List ℕ) (f : ℕ → ℕ) (at : ℕ) → HasLanes low (λ k. f (at + k)) → HasLanes high (λ k. f (at + 32 + k)) → (k : ℕ) → k < 64
    → get_or (low ++ high) k 0 ≡ f (at + k)
joined_lanes low high f at p q k l =
    let long_low = p.long in
    let long_high = q.long in
    ⊎_elim (λ below. get_or_append_left low high 0 k (omega arith) ∙ p.each k below)
    (λ above. get_or-append_right low high 32 k 0 p.long above ∙ q.each (k - 32) (omega arith) ∙ ap f (omega arith))
    (cases_lt k 32)

-- the bits of nonzero lanes stand for 64 positions
pub set_by_lanes : (low high : List ℕ) (f : ℕ → ℕ) (at mask : ℕ) → HasLanes low (λ k. f (at + k)) → HasLanes high (λ k. f (at + 32 + k))
    → ((k : ℕ) → (bit_at mask k ≡ 1) ↔ (get_or (low ++ high) k 0 ≢ 0)) → (k : ℕ) → (bit_at mask k ≡ 1) ↔ ((k < 64) × (f (at + k) ≢ 0))
set_by_lanes low high f at mask p q bits k =
    let long_low = p.long in
    let long_high = q.long in
    let past : 64 ≤ k → get_or (low ++ high) k 0 ≡ 0 = λ h. get_or_past (low ++ high) k 0 (omega (arith, length-append low high)) in
    ⊎_elim (λ l.
    let same = joined_lanes low high f at p q k l in
    (λ set. (l, λ none. (bits k).0 set (same ∙ none)), λ h. (bits k).1 (λ none. h.1 (sym same ∙ none))))
    (λ above. (λ set. absurd ((bits k).0 set (past above)), λ h. absurd (omega (arith, h.0))))
    (cases_lt k 64)

-- where two numbers have no bit together, each has none
or_none : (a b : ℕ) → bit_or a b ≡ 0 → (a ≡ 0) × (b ≡ 0)
or_none a b none =
    let bit : (i : ℕ) → bit_at (bit_or a b) i ≡ 0 = λ i. ap (λ n. bit_at n i) none ∙ bit_at-zero i in (
      same_from_bits a 0 (λ i. omega (arith, bit_at_or a b i, bit i, bit_at-zero i)),
      same_from_bits b 0 (λ i. omega (arith, bit_at_or a b i, bit i, bit_at-zero i)),
    )

-- where no lane of both vectors joined is set, the mask without bits is right for the 64 positions
pub none_set : (low high joined : List ℕ) (f : ℕ → ℕ) (at : ℕ) → HasLanes low (λ k. f (at + k)) → HasLanes high (λ k. f (at + 32 + k))
    → HasLanes joined (λ k. bit_or (get_or low k 0) (get_or high k 0)) → ((k : ℕ) → k < 32 → ¬ (get_or joined k 0 ≢ 0))
    → (k : ℕ) → (bit_at 0 k ≡ 1) ↔ ((k < 64) × (f (at + k) ≢ 0))
none_set low high joined f at p q h none k = (
  λ s. absurd (omega (arith, s, bit_at-zero k)),
  λ (l, some).
      elim (cases_lt k 32) [
        | inl below ↦ absurd (none k below (λ zero. some (sym (p.each k below) ∙ (or_none _ _ (sym (h.each k below) ∙ zero)).0)))
        | inr above ↦
            let below : k - 32 < 32 = omega arith in
            let place : at + 32 + (k - 32) ≡ at + k = omega arith in
            absurd (none (k - 32) below (λ zero. some (ap f (sym place) ∙ sym (q.each (k - 32) below) ∙ (or_none _ _ (sym (h.each (k - 32) below) ∙ zero)).1)))
      ],
)

-- what the two tables of a position give the lanes
pub lanes_by_entries : {low high v : List ℕ} (bytes of_low of_high : List ℕ) → HasLanes low (λ k. get_or of_low (get_or bytes k 0 % 16) 0)
    → HasLanes high (λ k. get_or of_high (get_or bytes k 0 / 16) 0) → HasLanes v (λ k. bit_and (get_or low k 0) (get_or high k 0))
    → HasLanes v (λ k. bit_and (get_or of_low (get_or bytes k 0 % 16) 0) (get_or of_high (get_or bytes k 0 / 16) 0))
lanes_by_entries bytes of_low of_high p q h = lanes_named _ h (λ k l i. bit_and (p.each k l i) (q.each k l i))

-- what all positions give the lanes
pub lanes_by_tables : (masks : Masks) {third second first_two last v : List ℕ} (a b c : List ℕ) → HasLanes third (λ k. value_at masks 0 (get_or a k 0))
    → HasLanes second (λ k. value_at masks 1 (get_or b k 0)) → HasLanes first_two (λ k. bit_and (get_or third k 0) (get_or second k 0))
    → HasLanes last (λ k. value_at masks 2 (get_or c k 0)) → HasLanes v (λ k. bit_and (get_or first_two k 0) (get_or last k 0))
    → HasLanes v (λ k. table_value masks (get_or a k 0) (get_or b k 0) (get_or c k 0))
unfolding table_value
lanes_by_tables masks a b c p q f r h =
    lanes_named _ h (λ k l i. bit_and ((f.each k l ∙ (λ j. bit_and (p.each k l j) (q.each k l j))) i) (r.each k l i))

-- what loads at three places in a row give the lanes
pub lanes_of_loads : (masks : Masks) (text : List ℕ) (at : ℕ) {a b c v : List ℕ} → HasLanes a (λ k. get_or text (at + k) 0)
    → HasLanes b (λ k. get_or text (at + 1 + k) 0) → HasLanes c (λ k. get_or text (at + 2 + k) 0)
    → HasLanes v (λ k. table_value masks (get_or a k 0) (get_or b k 0) (get_or c k 0)) → HasLanes v (λ k. value_from masks text (at + k))
lanes_of_loads masks text at p q r h =
    lanes_named _ h (λ k l i.
    let second : at + 1 + k ≡ at + k + 1 = omega arith in
    let last : at + 2 + k ≡ at + k + 2 = omega arith in
    table_value masks (p.each k l i) ((q.each k l ∙ ap (λ x. get_or text x 0) second) i) ((r.each k l ∙ ap (λ x. get_or text x 0) last) i))

-- what loads from three slices at one place give the lanes
pub lanes_of_slices : (masks : Masks) (x0 x1 x2 : List ℕ) (at : ℕ) {a b c v : List ℕ} → HasLanes a (λ k. get_or x0 (at + k) 0)
    → HasLanes b (λ k. get_or x1 (at + k) 0) → HasLanes c (λ k. get_or x2 (at + k) 0)
    → HasLanes v (λ k. table_value masks (get_or a k 0) (get_or b k 0) (get_or c k 0))
    → HasLanes v (λ k. table_value masks (get_or x0 (at + k) 0) (get_or x1 (at + k) 0) (get_or x2 (at + k) 0))
lanes_of_slices masks x0 x1 x2 at p q r h =
    lanes_named _ h (λ k l i. table_value masks (p.each k l i) (q.each k l i) (r.each k l i))

-- a step of a loop that writes 32 lanes
pub holds_after_store : (f : ℕ → ℕ) (out v : List ℕ) (at : ℕ) → at + 32 ≤ length out → HasLanes v (λ k. f (at + k)) → HoldsBelow f at out
    → HoldsBelow f (at + 32) (put_chunk at out v)
holds_after_store f out v at room h old k l =
    let long = h.long in
    ⊎_elim (λ below. get_or-put_chunk_below at out v k 0 below ∙ old k below)
    (λ from.
    let place : at + (k - at) ≡ k = omega arith in
    ap (λ j. get_or (put_chunk at out v) j 0) (sym place) ∙ get_or-put_chunk_at at out v (k - at) 0 (omega arith) (omega arith)
    ∙ h.each (k - at) (omega arith) ∙ ap f place)
    (cases_lt k at)
