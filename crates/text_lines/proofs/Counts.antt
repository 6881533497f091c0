-- Counts of a text in parts.
use Rattle.std.proofs.Common.{◌≡◌, ℕ, zero, suc, ◌+◌, ◌-◌, ◌*◌, ◌/◌, ◌^◌, ◌<◌, ◌≤◌, Bool, true, false, cond, List, [], ◌∷◌, length, map, replicate, take, drop, count_by, eqb, inl, inr, not, Fits, w8, refl, sym, ap, ◌∙◌, arith}
use Rattle.std.specs.List.{prefix_len}
use Rattle.std.specs.Int.RustNames.{count_ones}
use Rattle.std.specs.Simd.Lanes.{Each1, Each2, mask_l, sel_l, sum_l, top, zip2}
use Rattle.std.proofs.Math.Nat.{div-one, eq-zero-or-pos, zero-div}
use Rattle.std.specs.Int.Count.{count_trailing_zeros, trailing_of_zero}
use Rattle.std.proofs.lemmas.Nat.{shr-shr}
use Rattle.std.proofs.lemmas.Simd.{Each1-weaker, Each1-zip2, Each2-of, bytes_below, leading_from_mask_l, length-sel_l, length-zip2, trailing_mask_l, ones-mask_l, sum-zip2, sum_bound, tops_compared, zip2_splat}
use Rattle.std.proofs.lemmas.List.{drop-drop, drop-map, drop-take, length-drop, length-map, take-take, take_all}
use Rattle.std.proofs.lemmas.List.Sums.{sum_by-cons, sum_by-take-drop}

-- up to a place, and from it on
pub count_by-parts : (p : ℕ → Bool) (text : List ℕ) (at : ℕ) → count_by p (take at text) + count_by p (drop at text) ≡ count_by p text
count_by-parts p text at = sum_by-take-drop (λ b. cond (p b) 1 0) text at

-- some bytes more
pub count_by-more : (p : ℕ → Bool) (text : List ℕ) (at n : ℕ) → count_by p (take at text) + count_by p (take ((at + n) - at) (drop at text)) ≡ count_by p (take (at + n) text)
count_by-more p text at n =
    let prefix : take at (take (at + n) text) ≡ take at text = take-take at (at + n) text (omega arith) in
    let size : (at + n) - at ≡ n = omega arith in
    ap (λ t. count_by p t + count_by p (take ((at + n) - at) (drop at text))) (sym prefix)
    ∙ ap (λ k. count_by p (take at (take (at + n) text)) + count_by p (take k (drop at text))) size
    ∙ ap (λ t. count_by p (take at (take (at + n) text)) + count_by p t) (sym (drop-take at n text))
    ∙ count_by-parts p (take (at + n) text) at

-- the lowest bit is the first lane
halved : (b : Bool) (n : ℕ) → (cond b 1 0 + 2 * n) / 2 ^ 1 ≡ n
halved true n = omega arith
halved false n = omega arith

-- a mask with its low bits shifted out is the mask of the later lanes
pub mask_l-drop : (ms : List Bool) (k : ℕ) → mask_l ms / 2 ^ k ≡ mask_l (drop k ms)
mask_l-drop ms zero = div-one (mask_l ms)
mask_l-drop [] (suc k) = zero-div (2 ^ suc k)
mask_l-drop (m ∷ ms) (suc k) =
    let more : suc k ≡ 1 + k = omega arith in
    ap (λ j. mask_l (m ∷ ms) / 2 ^ j) more ∙ sym (shr-shr (mask_l (m ∷ ms)) 1 k) ∙ ap (λ n. n / 2 ^ k) (halved m (mask_l ms)) ∙ mask_l-drop ms k

-- the last bytes of a text, as lanes of its last 64
pub ones-last : (p : ℕ → Bool) (text lanes : List ℕ) (left : ℕ) → 64 ≤ length text → left < 64 → lanes ≡ take ((length text - 64 + 64) - (length text - 64)) (drop (length text - 64) text)
    → count_ones (mask_l (map p lanes) / 2 ^ (64 - 1 - left) / 2 ^ 1) ≡ count_by p (drop (length text - left) text)
ones-last p text lanes left long few is =
    let at = length text - 64 in
    let size : (at + 64) - at ≡ 64 = omega arith in
    let off = (64 - 1 - left) + 1 in
    let place : at + off ≡ length text - left = omega arith in
    let all : lanes ≡ drop at text = is ∙ ap (λ n. take n (drop at text)) size ∙ take_all 64 (drop at text) (omega (arith, length-drop at text)) in
    ap count_ones (shr-shr (mask_l (map p lanes)) (64 - 1 - left) 1 ∙ mask_l-drop (map p lanes) off ∙ ap mask_l (drop-map p off lanes))
    ∙ ones-mask_l p (drop off lanes)
    ∙ ap (λ t. count_by p (drop off t)) all ∙ ap (count_by p) (drop-drop off at text ∙ ap (λ k. drop k text) place)

-- 1 in each lane that passes: together as many as pass
sum-select : (p : ℕ → Bool) (xs : List ℕ) (n : ℕ) → length xs ≡ n → sum_l (sel_l (map p xs) (replicate n 1) (replicate n 0)) ≡ count_by p xs
sum-select p [] n e = refl
sum-select p (x ∷ xs) zero e = absurd (omega (arith, e))
sum-select p (x ∷ xs) (suc n) e = ap (λ k. cond (p x) 1 0 + k) (sum-select p xs n (omega (arith, e))) ∙ sym (sum_by-cons (λ y. cond (p y) 1 0) x xs)

-- the lanes that are newlines
sum-compared : (xs : List ℕ) → length xs ≡ 64 → sum_l (sel_l (map (top 7) (zip2 (λ a b. cond (eqb a b) 255 0) xs (replicate 64 10))) (replicate 64 1) (replicate 64 0)) ≡ count_by (λ b. eqb b 10) xs
sum-compared xs e =
    ap (λ ms. sum_l (sel_l ms (replicate 64 1) (replicate 64 0))) (tops_compared w8 eqb xs (replicate 64 10) ∙ zip2_splat eqb xs 64 10 e) ∙ sum-select (λ b. eqb b 10) xs 64 e

-- no lane is more than 1
few-select : (ms : List Bool) (n : ℕ) → Each1 (λ lane. lane ≤ 1) (sel_l ms (replicate n 1) (replicate n 0))
few-select [] n = tt
few-select (m ∷ ms) zero = tt
few-select (true ∷ ms) (suc n) = (omega arith, few-select ms n)
few-select (false ∷ ms) (suc n) = (omega arith, few-select ms n)

-- 1 in each lane that is a newline
abbrev pub marked : List ℕ → List ℕ
marked xs = sel_l (map (top 7) (zip2 (λ a b. cond (eqb a b) 255 0) xs (replicate 64 10))) (replicate 64 1) (replicate 64 0)

length-marked : (xs : List ℕ) → length xs ≡ 64 → length (marked xs) ≡ 64
length-marked xs e =
    let found = map (top 7) (zip2 (λ a b. cond (eqb a b) 255 0) xs (replicate 64 10)) in
    let ones : List ℕ = replicate 64 1 in
    let zeros : List ℕ = replicate 64 0 in
    let size : length found ≡ 64 = length-map (zip2 (λ a b. cond (eqb a b) 255 0) xs (replicate 64 10)) (top 7) ∙ length-zip2 (λ a b. cond (eqb a b) 255 0) xs (replicate 64 10) e ∙ e in
    length-sel_l found ones zeros size size ∙ size

few-marked : (xs : List ℕ) → Each1 (λ lane. lane ≤ 1) (marked xs)
few-marked xs = few-select (map (top 7) (zip2 (λ a b. cond (eqb a b) 255 0) xs (replicate 64 10))) 64

-- they are added to lanes that have room
pub marked_fit : (lanes xs : List ℕ) → Each1 (λ lane. lane < 255) lanes → Each2 (λ a b. Fits w8 (a + b)) lanes (marked xs)
marked_fit lanes xs room = Each2-of (λ lane. lane < 255) (λ lane. lane ≤ 1) (λ a b. Fits w8 (a + b)) (λ a b lt one. record { fits = omega arith }) lanes (marked xs) room (few-marked xs)

pub sum-marked : (lanes xs : List ℕ) → length lanes ≡ 64 → length xs ≡ 64 → sum_l (zip2 (λ a b. a + b) lanes (marked xs)) ≡ sum_l lanes + count_by (λ b. eqb b 10) xs
sum-marked lanes xs e size = sum-zip2 lanes (marked xs) (e ∙ sym (length-marked xs size)) ∙ ap (λ n. sum_l lanes + n) (sum-compared xs size)

pub most-marked : (lanes xs : List ℕ) (most : ℕ) → Each1 (λ lane. lane ≤ most) lanes → Each1 (λ lane. lane ≤ most + 1) (zip2 (λ a b. a + b) lanes (marked xs))
most-marked lanes xs most le =
    Each1-zip2 (λ a b. a + b) (λ lane. lane ≤ most + 1) lanes (marked xs) (Each2-of (λ lane. lane ≤ most) (λ lane. lane ≤ 1) (λ a b. a + b ≤ most + 1) (λ a b x y. omega arith) lanes (marked xs) le (few-marked xs))

-- lanes with a bound below 255 have room
pub room-most : (most : ℕ) (lanes : List ℕ) → most < 255 → Each1 (λ lane. lane ≤ most) lanes → Each1 (λ lane. lane < 255) lanes
room-most most lanes few = Each1-weaker (λ lane. lane ≤ most) (λ lane. lane < 255) (λ a le. omega arith) lanes

-- 64 bytes together hold less than 16 bits do
pub sum-bytes : (xs : List ℕ) → length xs ≡ 64 → Each1 (Fits w8) xs → sum_l xs ≤ 16320
sum-bytes xs e fit = omega (arith, sum_bound 255 xs (bytes_below xs fit), ap (λ n. 255 * n) e)

-- four times 64 bytes more
pub count_by-four : (p : ℕ → Bool) (text : List ℕ) (at a b c d : ℕ) → a ≡ count_by p (take ((at + 64) - at) (drop at text)) → b ≡ count_by p (take (((at + 64) + 64) - (at + 64)) (drop (at + 64) text))
    → c ≡ count_by p (take (((at + 128) + 64) - (at + 128)) (drop (at + 128) text)) → d ≡ count_by p (take (((at + 192) + 64) - (at + 192)) (drop (at + 192) text)) → count_by p (take at text) + (a + b + c + d) ≡ count_by p (take (at + 256) text)
count_by-four p text at a b c d first second third fourth =
    let two : (at + 64) + 64 ≡ at + 128 = omega arith in
    let three : (at + 128) + 64 ≡ at + 192 = omega arith in
    let four : (at + 192) + 64 ≡ at + 256 = omega arith in
    omega (
      arith,
      first,
      second,
      third,
      fourth,
      count_by-more p text at 64,
      count_by-more p text (at + 64) 64,
      count_by-more p text (at + 128) 64,
      count_by-more p text (at + 192) 64,
      ap (λ n. count_by p (take n text)) two,
      ap (λ n. count_by p (take n text)) three,
      ap (λ n. count_by p (take n text)) four,
    )

-- the zeros below the lowest bit that is set
ctz-lead : (p : ℕ → Bool) (xs : List ℕ) → length xs ≡ 64 → count_trailing_zeros 64 (mask_l (map p xs)) ≡ prefix_len (λ x. not (p x)) xs
ctz-lead p xs e =
    elim (eq-zero-or-pos (mask_l (map p xs))) [
      | inl none ↦ ap (count_trailing_zeros 64) none ∙ trailing_of_zero 64 ∙ sym e ∙ sym (leading_from_mask_l p xs none)
      | inr some ↦ trailing_mask_l p 64 xs (omega (arith, e)) some
    ]

-- the bits of the first 64 bytes say how many bytes stand before a newline
pub first-lead : (text : List ℕ) {lanes : List ℕ} {bits : ℕ} → bits ≡ mask_l (map (λ b. eqb b 10) lanes) → length lanes ≡ 64 → lanes ≡ take 64 text → count_trailing_zeros 64 bits ≡ prefix_len (λ b. not (eqb b 10)) (take 64 text)
first-lead text {lanes} mask e is = ap (count_trailing_zeros 64) mask ∙ ctz-lead (λ b. eqb b 10) lanes e ∙ ap (prefix_len (λ b. not (eqb b 10))) is
