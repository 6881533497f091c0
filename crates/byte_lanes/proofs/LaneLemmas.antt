-- What the operations on vectors hold, lane by lane.
use Rattle.std.proofs.Common.{◌≡◌, ◌≢◌, ◌↔◌, ℕ, ◌+◌, ◌*◌, ◌/◌, ◌%◌, ◌^◌, ◌<◌, ◌≤◌, List, Bool, true, false, not, cond, eqb, length, get_or, map, replicate, bit_or, refl, sym, ap, ◌∙◌, ◌-◌, subst, arith, inl, inr, w8}
use mir.Syntax.{Width}
use mir.Val.{bits, hbits}
use Rattle.std.specs.Int.{bit_at}
use Rattle.std.specs.Simd.Lanes.{zip2, sel_l, mask_l, top}
use Rattle.std.proofs.lemmas.Simd.{length-zip2, get_or-zip2, get_or-replicate, length-sel_l, get_or-sel_l, tops_compared, bitmask_splat, bit_mask_l, mask_l-mod, swz_l, SwzOk, SwzOk-from_below, length-swz_l, get_or-swz_l_below, Each1-from_get_or}
use Rattle.std.proofs.Math.ListN.{get_or-map}
use Rattle.std.proofs.lemmas.Bool.{cases_lt, eqb-true, eqb-false, ne_eqb}
use Rattle.std.proofs.lemmas.List.{get_or_past}
use Rattle.std.proofs.lemmas.Nat.Bits.{bit_at-zero}
use Rattle.byte_lanes.specs.Lanes.{HasLanes, HoldsTwice}

-- a vector holds its own lanes
pub lanes_of : (v : List ℕ) → length v ≡ 32 → HasLanes v (λ k. get_or v k 0)
lanes_of v long = record { long = long; each = λ k l. refl }

-- a splat holds the number everywhere
pub lanes_of_splat : (x : ℕ) → HasLanes (replicate 32 x) (λ k. x)
lanes_of_splat x = record { long = refl; each = λ k l. get_or-replicate 32 k x 0 l }

-- the lanes may be named otherwise
pub lanes_named : {v : List ℕ} {f : ℕ → ℕ} (g : ℕ → ℕ) → HasLanes v f → ((k : ℕ) → k < 32 → f k ≡ g k) → HasLanes v g
lanes_named g h same = record { long = h.long; each = λ k l. h.each k l ∙ same k l }

-- an operator takes the lanes of two vectors one by one
pub lanes_zipped : {a b : List ℕ} {f g : ℕ → ℕ} (op : ℕ → ℕ → ℕ) → HasLanes a f → HasLanes b g → HasLanes (zip2 op a b) (λ k. op (f k) (g k))
lanes_zipped {a} {b} {f} {g} op p q =
    let long_a = p.long in
    let long_b = q.long in
    record {
      long = length-zip2 op a b (p.long ∙ sym q.long) ∙ p.long;
      each = λ k l. get_or-zip2 op a b k 0 0 0 (omega arith) (omega arith) ∙ (λ i. op (p.each k l i) (q.each k l i));
    }

-- a selection by a comparison takes each lane from the one vector or the other
pub lanes_selected : {a b y z : List ℕ} {f g s t : ℕ → ℕ} (w : Width) (test : ℕ → ℕ → Bool) → HasLanes a f → HasLanes b g → HasLanes y s → HasLanes z t
    → HasLanes (sel_l (map (top (hbits w)) (zip2 (λ m n. cond (test m n) (2 ^ bits w - 1) 0) a b)) y z) (λ k. cond (test (f k) (g k)) (s k) (t k))
lanes_selected {a} {b} {y} {z} {f} {g} {s} {t} w test p q u v =
    let long_a = p.long in
    let long_b = q.long in
    let long_y = u.long in
    let long_z = v.long in
    let long : length (zip2 test a b) ≡ 32 = length-zip2 test a b (p.long ∙ sym q.long) ∙ p.long in
    let chosen : HasLanes (sel_l (zip2 test a b) y z) (λ k. cond (test (f k) (g k)) (s k) (t k)) = record {
      long = length-sel_l (zip2 test a b) y z (long ∙ sym u.long) (long ∙ sym v.long) ∙ long;
      each = λ k l.
          get_or-sel_l (zip2 test a b) y z k 0 (omega arith) (omega arith) (omega arith)
          ∙ (λ i. cond ((get_or-zip2 test a b k 0 0 false (omega arith) (omega arith) ∙ (λ j. test (p.each k l j) (q.each k l j))) i) (u.each k l i) (v.each k l i));
    } in
    subst (λ ms. HasLanes (sel_l ms y z) (λ k. cond (test (f k) (g k)) (s k) (t k))) (sym (tops_compared w test a b)) chosen

-- halves of bytes may be looked up in a table of 16 entries
pub halves_in_range : (halves : List ℕ) → length halves ≡ 32 → ((k : ℕ) → k < 32 → get_or halves k 0 < 16) → SwzOk w8 16 32 0 halves
halves_in_range halves long small =
    SwzOk-from_below w8 16 2 32 0 halves refl (omega arith)
    (Each1-from_get_or (λ j. j < 16) halves 0 (λ k l. small k (omega arith)))

-- in a vector that holds a table twice they find its entries
pub lanes_looked_up : (wide halves entries : List ℕ) → length halves ≡ 32 → ((k : ℕ) → k < 32 → get_or halves k 0 < 16) → HoldsTwice wide entries
    → HasLanes (swz_l w8 16 wide 0 halves) (λ k. get_or entries (get_or halves k 0) 0)
lanes_looked_up wide halves entries long small twice = record {
  long = length-swz_l w8 16 wide 0 halves ∙ long;
  each = λ k l.
      let below = small k l in
      get_or-swz_l_below w8 16 wide 0 halves k (omega arith) below
      ∙ ap (λ j. get_or wide j 0) (omega arith) ∙ twice.each (16 * (k / 16) + get_or halves k 0) (omega arith) ∙ ap (λ j. get_or entries j 0) (omega arith);
}

-- the test of a lane, as a bit
set_if_not_zero : (x : ℕ) (b : Bool) → eqb x 0 ≡ b → (cond {A = ℕ} (not b) 1 0 ≡ 1) ↔ (x ≢ 0)
set_if_not_zero x true e = (λ h. absurd (omega arith), λ ne. absurd (ne (eqb-true x 0 e)))
set_if_not_zero x false e = (λ h. eqb-false x 0 e, λ h. refl)

-- a bit of the mask of the nonzero lanes, of a vector of n lanes
pub bit_of_nonzero : (w : Width) (v : List ℕ) (n k : ℕ) → length v ≡ n → n ≤ 64
    → (bit_at (mask_l (map (top (hbits w)) (zip2 (λ m n. cond (not (eqb m n)) (2 ^ bits w - 1) 0) v (replicate n 0))) % 2 ^ 64) k ≡ 1) ↔ (get_or v k 0 ≢ 0)
bit_of_nonzero w v n k long few =
    let test : ℕ → ℕ → Bool = λ m n. not (eqb m n) in
    let same = bitmask_splat w test v n 0 long few in
    let bit : bit_at (mask_l (map (λ x. test x 0) v)) k ≡ cond (not (eqb (get_or v k 0) 0)) 1 0 =
    bit_mask_l (map (λ x. test x 0) v) k ∙ ap (λ b. cond b 1 0) (get_or-map (λ x. test x 0) v k 0) in
    let known = set_if_not_zero (get_or v k 0) (eqb (get_or v k 0) 0) refl in
    let whole = ap (λ m. bit_at m k) same ∙ bit in
    (λ h. known.0 (sym whole ∙ h), λ h. whole ∙ known.1 h)

-- where a lane is not zero, neither is the mask
pub some_nonzero : (v : List ℕ) (n k : ℕ) → length v ≡ n → n ≤ 64 → get_or v k 0 ≢ 0
    → not (eqb (mask_l (map (top 7) (zip2 (λ m n. cond (not (eqb m n)) 255 0) v (replicate n 0))) % 2 ^ 64) 0) ≡ true
some_nonzero v n k long few set =
    let mask = mask_l (map (top 7) (zip2 (λ m n. cond (not (eqb m n)) 255 0) v (replicate n 0))) % 2 ^ 64 in
    let there : bit_at mask k ≡ 1 = (bit_of_nonzero w8 v n k long few).1 set in
    ap not (ne_eqb mask 0 (λ none. absurd (omega (arith, there, ap (λ m. bit_at m k) none ∙ bit_at-zero k))))

-- the test of a lane for a number, as a bit
set_if_equal : (x y : ℕ) (b : Bool) → eqb x y ≡ b → (cond {A = ℕ} b 1 0 ≡ 1) ↔ (x ≡ y)
set_if_equal x y true e = (λ h. eqb-true x y e, λ h. refl)
set_if_equal x y false e = (λ h. absurd (omega arith), λ same. absurd (eqb-false x y e same))

-- the lanes of a vector of 64 that, with some bits set, are a byte
pub equal_lanes : List ℕ → ℕ → ℕ → List Bool
equal_lanes v set byte = zip2 eqb (zip2 bit_or v (replicate 64 set)) (replicate 64 byte)

equal_lanes-len : (v : List ℕ) (set byte : ℕ) → length v ≡ 64 → length (zip2 bit_or v (replicate 64 set)) ≡ 64
equal_lanes-len v set byte long = length-zip2 bit_or v (replicate 64 set) long ∙ long

-- their mask, as it is computed
equal_mask : (v : List ℕ) (set byte : ℕ) → length v ≡ 64
    → mask_l (map (top 7) (zip2 (λ m n. cond (eqb m n) 255 0) (zip2 bit_or v (replicate 64 set)) (replicate 64 byte))) % 2 ^ 64 ≡ mask_l (equal_lanes v set byte)
unfolding equal_lanes
equal_mask v set byte long =
    let both = zip2 bit_or v (replicate 64 set) in
    let long_both : length both ≡ 64 = equal_lanes-len v set byte long in
    let long_tests : length (zip2 eqb both (replicate 64 byte)) ≡ 64 = length-zip2 eqb both (replicate 64 byte) long_both ∙ long_both in
    ap (λ ms. mask_l ms % 2 ^ 64) (tops_compared w8 eqb both (replicate 64 byte)) ∙ mask_l-mod (zip2 eqb both (replicate 64 byte)) 64 (omega arith)

-- a bit of it
bit_of_equal : (v : List ℕ) (set byte k : ℕ) → length v ≡ 64 → (bit_at (mask_l (equal_lanes v set byte)) k ≡ 1) ↔ ((k < 64) × (bit_or (get_or v k 0) set ≡ byte))
unfolding equal_lanes
bit_of_equal v set byte k long =
    let both = zip2 bit_or v (replicate 64 set) in
    let long_both : length both ≡ 64 = equal_lanes-len v set byte long in
    let tests = zip2 eqb both (replicate 64 byte) in
    let long_tests : length tests ≡ 64 = length-zip2 eqb both (replicate 64 byte) long_both ∙ long_both in
    let bit : bit_at (mask_l tests) k ≡ cond (get_or tests k false) 1 0 = bit_mask_l tests k in
    elim (cases_lt k 64) [
      | inl l ↦
          let lane : get_or both k 0 ≡ bit_or (get_or v k 0) set =
          get_or-zip2 bit_or v (replicate 64 set) k 0 0 0 (omega arith) l ∙ ap (λ x. bit_or (get_or v k 0) x) (get_or-replicate 64 k set 0 l) in
          let test : get_or tests k false ≡ eqb (bit_or (get_or v k 0) set) byte =
          get_or-zip2 eqb both (replicate 64 byte) k 0 0 false (omega arith) l ∙ (λ i. eqb (lane i) (get_or-replicate 64 k byte 0 l i)) in
          let whole = bit ∙ ap (λ b. cond b 1 0) test in
          let known = set_if_equal (bit_or (get_or v k 0) set) byte _ refl in
          (λ h. (l, known.0 (sym whole ∙ h)), λ h. whole ∙ known.1 h.1)
      | inr past ↦
          let none : bit_at (mask_l tests) k ≡ 0 = bit ∙ ap (λ b. cond b 1 0) (get_or_past tests k false (omega arith)) in
          (λ h. absurd (omega (arith, none, h)), λ h. absurd (omega (arith, h.0)))
    ]

-- the bits of the mask, by the lanes
pub set_if_same : (v : List ℕ) (set byte k : ℕ) → length v ≡ 64
    → (bit_at (mask_l (map (top 7) (zip2 (λ m n. cond (eqb m n) 255 0) (zip2 bit_or v (replicate 64 set)) (replicate 64 byte))) % 2 ^ 64) k ≡ 1) ↔ ((k < 64) × (bit_or (get_or v k 0) set ≡ byte))
set_if_same v set byte k long =
    let same = ap (λ m. bit_at m k) (equal_mask v set byte long) in
    let known = bit_of_equal v set byte k long in
    (λ h. known.0 (sym same ∙ h), λ h. same ∙ known.1 h)
