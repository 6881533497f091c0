-- Keys of last bytes: how they are computed, and that a text has the key of each literal that ends in it.
use Rattle.std.proofs.Common.{◌≡◌, ℕ, zero, suc, ◌+◌, ◌-◌, ◌*◌, ◌/◌, ◌^◌, ◌<◌, ◌≤◌, true, eqb, List, [], ◌∷◌, ◌++◌, length, get_or, drop, take, replicate, inl, inr, refl, sym, ap, ◌∙◌, subst, arith}
use Rattle.std.proofs.Common.{Fits, w8}
use Rattle.std.proofs.Math.Facts.{Fits-lt-pow}
use borrow.Rule.Slice.PartMut.{put_mid}
use native.Mathlib.Numerals.{unary_clauses}
use Rattle.std.specs.Int.RustNames.{bit_and, bit_or}
use Rattle.std.specs.Int.Bits.{or_zero_r}
use Rattle.std.specs.List.{slice_range}
use Rattle.std.proofs.lemmas.Bool.{agree_below_at, cases_lt}
use Rattle.std.proofs.lemmas.Bool.Decides.{nat_tests, Decides-eqb}
use Rattle.std.proofs.lemmas.List.{append_cancel_left, drop-drop, drop-map, take-replicate, get_or_past, length-append, length-replicate}
use Rattle.std.proofs.lemmas.List.Edits.{length-between, get_or-between}
use Rattle.std.proofs.lemmas.Nat.{pow-add, shr-shr, shr_high, or_block}
use Rattle.std.proofs.lemmas.Nat.Bits.{and_high_mask}
use Rattle.std.proofs.Math.Nat.{mul_assoc}
use Rattle.std.proofs.Math.Seq.{drop-append-add}
use Rattle.std.proofs.lemmas.Option.{get_or_from_slice_get, slice_get-get_or}
use Rattle.std.proofs.lemmas.Slice.{between_from_start, between_is, between_to_end, take-put_mid}
use Rattle.lit_base.specs.declared.fold.Fold.{Fold}
use Rattle.lit_base.specs.declared.fold.Fold.TheVariants.{No, Ascii}
use Rattle.lit_base.specs.Folding.{folded, folded_text}
use Rattle.lit_base.specs.Literals.{Literals, literal_at}
use Rattle.lit_base.specs.Occurrences.{Occurs}
use Rattle.lit_base.proofs.FoldLemmas.{prefix_folds, unfolded}
use Rattle.list_index.specs.Suffixes.{spelled, case_bits, last_key, masked_key, suffix_key, suffix_mask}

-- the elements are bytes
pub record AreBytes (bs : List ℕ) : Type 0 where
  pub small : (i : ℕ) → get_or bs i 0 < 256

-- those that fit a byte are
pub are_bytes : (bs : List ℕ) → ((i : ℕ) → Fits w8 (get_or bs i 0)) → AreBytes bs
are_bytes bs h = record { small = λ i. Fits-lt-pow (h i) }

more_bytes : (b : ℕ) (bs : List ℕ) → b < 256 → AreBytes bs → (i : ℕ) → get_or (b ∷ bs) i 0 < 256
more_bytes b bs small h zero = small
more_bytes b bs small h (suc i) = h.small i

rest_bytes : (b : ℕ) (bs : List ℕ) → AreBytes (b ∷ bs) → AreBytes bs
rest_bytes b bs h = record { small = λ i. h.small (suc i) }

-- the number that the bytes after the first spell
pub spelled-drop : (k : ℕ) (bs : List ℕ) → AreBytes bs → spelled bs / 2 ^ (8 * k) ≡ spelled (drop k bs)
spelled-drop zero bs h = omega arith
spelled-drop (suc k) [] h = omega arith
spelled-drop (suc k) (b ∷ bs) h =
    let first : b < 2 ^ 8 = h.small 0 in
    let whole : 8 * suc k ≡ 8 + 8 * k = omega arith in
    ap (λ n. (spelled bs * 256 + b) / 2 ^ n) whole
    ∙ sym (shr-shr (spelled bs * 256 + b) 8 (8 * k))
    ∙ ap (λ n. n / 2 ^ (8 * k)) (shr_high (spelled bs) 8 b first)
    ∙ spelled-drop k bs (rest_bytes b bs h)

-- zeros in front shift the spelled number
spelled-zeros : (n : ℕ) (bs : List ℕ) → spelled (replicate n 0 ++ bs) ≡ spelled bs * 2 ^ (8 * n)
spelled-zeros zero bs = omega arith
spelled-zeros (suc n) bs =
    let whole : 8 * suc n ≡ 8 * n + 8 = omega arith in
    let split : 2 ^ (8 * suc n) ≡ 2 ^ (8 * n) * 2 ^ 8 = ap (λ k. 2 ^ k) whole ∙ pow-add 2 (8 * n) 8 in
    let rest = spelled-zeros n bs in
    ap (λ k. k * 256 + 0) rest ∙ omega arith ∙ mul_assoc (spelled bs) (2 ^ (8 * n)) 256 ∙ ap (λ k. spelled bs * k) (sym split)

-- eight bytes whose last ones were written over zeros spell what the written ones do after zeros
pub padded : (xs bytes : List ℕ) → xs ≡ bytes → length bytes ≤ 8
    → spelled (slice_range (put_mid (8 - length bytes) (8 - (8 - length bytes)) (replicate 8 0) xs) (8 - 8) 8) ≡ spelled (replicate (8 - length bytes) 0 ++ bytes)
padded xs bytes same few =
    let room : ℕ = 8 - length bytes in
    let whole = between_from_start (put_mid room (8 - room) (replicate 8 0) xs) 8 in
    let written = take-put_mid room (8 - room) (replicate 8 0) xs 8 (omega (arith, ap length same)) (omega (arith, length-replicate {A = ℕ} 8 0)) in
    let zeros : take room (replicate 8 0) ≡ replicate room 0 = take-replicate room 8 0 (omega arith) in
    ap spelled (whole ∙ written ∙ (λ i. zeros i ++ same i))

-- the bit of a letter's case in one byte, and in each of some bytes
abbrev case_bit : Fold → ℕ
case_bit No = 0
case_bit Ascii = 32

abbrev case_bits_in : Fold → ℕ → ℕ
case_bits_in fold zero = 0
case_bits_in fold (suc n) = case_bits_in fold n * 256 + case_bit fold

eight_case_bits : (fold : Fold) → case_bits_in fold 8 ≡ case_bits fold
eight_case_bits No = refl
eight_case_bits Ascii = refl

-- with the bit of the case set, a byte and its folded byte are the same
folded_with_case : (fold : Fold) (b : ℕ) → b < 256 → bit_or (folded fold b) (case_bit fold) ≡ bit_or b (case_bit fold)
folded_with_case No b l = refl
folded_with_case Ascii b l =
    (Decides-eqb (bit_or (folded Ascii b) 32) (bit_or b 32)).0 (agree_below_at (λ k. eqb (bit_or (folded Ascii k) 32) (bit_or k 32)) (λ _. true) 256 b refl l)

-- and with the bits of the case of eight letters
pub folded_with_case_bits : (fold : Fold) (b : ℕ) → b < 256 → bit_or (folded fold b) (case_bits fold) ≡ bit_or b (case_bits fold)
folded_with_case_bits No b l = refl
folded_with_case_bits Ascii b l =
    (Decides-eqb (bit_or (folded Ascii b) 2314885530818453536) (bit_or b 2314885530818453536)).0
    (agree_below_at (λ k. eqb (bit_or (folded Ascii k) 2314885530818453536) (bit_or k 2314885530818453536)) (λ _. true) 256 b refl l)

folded_small : (fold : Fold) (b : ℕ) → b < 256 → folded fold b < 256
folded_small No b l = l
folded_small Ascii b l = grind (arith, nat_tests)

case_bit_small : (fold : Fold) → case_bit fold < 256
case_bit_small No = omega arith
case_bit_small Ascii = omega arith

-- and so are what bytes and the folded bytes spell
spelled-folded : (fold : Fold) (n : ℕ) (bs : List ℕ) → length bs ≤ n → AreBytes bs → bit_or (spelled (folded_text fold bs)) (case_bits_in fold n) ≡ bit_or (spelled bs) (case_bits_in fold n)
spelled-folded fold n [] few h = refl
spelled-folded fold zero (b ∷ bs) few h = absurd (omega arith)
spelled-folded fold (suc n) (b ∷ bs) few h =
    let first : b < 256 = h.small 0 in
    let rest = spelled-folded fold n bs (omega arith) (rest_bytes b bs h) in
    let here = folded_with_case fold b first in
    let left = or_block 8 (spelled (folded_text fold bs)) (case_bits_in fold n) (folded fold b) (case_bit fold) (folded_small fold b first) (case_bit_small fold) in
    let right = or_block 8 (spelled bs) (case_bits_in fold n) b (case_bit fold) first (case_bit_small fold) in
    left ∙ (λ i. rest i * 256 + here i) ∙ sym right

-- the rest of a slice after its first bytes
pub drop-range : (text : List ℕ) (from to at j : ℕ) → from + at ≡ to → drop at (slice_range text from j) ≡ slice_range text to j
drop-range text from to at j e =
    ap (drop at) (between_is text from j)
    ∙ drop-drop at from (take j text)
    ∙ ap (λ n. drop n (take j text)) e
    ∙ sym (between_is text to j)

-- a slice of bytes has bytes
pub range_bytes : (text : List ℕ) (from end : ℕ) → end ≤ length text → AreBytes text → AreBytes (slice_range text from end)
range_bytes text from end inside bytes = record {
  small = λ i. elim (cases_lt (from + i) end) [
    | inl within ↦ subst (λ x. x < 256) (sym (get_or-between text from end i 0 within)) (bytes.small (from + i))
    | inr past ↦
        let len : length (slice_range text from end) ≡ end - from = length-between text from end inside in
        subst (λ x. x < 256) (sym (get_or_past (slice_range text from end) i 0 (omega arith))) (omega arith)
  ];
}

-- what bytes spell fits as many bytes
spelled_below : (bs : List ℕ) → AreBytes bs → spelled bs < 2 ^ (8 * length bs)
spelled_below [] h = omega arith
spelled_below (b ∷ bs) h =
    let first : b < 256 = h.small 0 in
    let whole : 8 * length (b ∷ bs) ≡ 8 * length bs + 8 = omega arith in
    let split : 2 ^ (8 * length (b ∷ bs)) ≡ 2 ^ (8 * length bs) * 256 = ap (λ k. 2 ^ k) whole ∙ pow-add 2 (8 * length bs) 8 in
    let rest = spelled_below bs (rest_bytes b bs h) in
    omega (arith, split, rest, first)

-- zeros in front are bytes too, and fold to themselves
pub zeros_bytes : (n : ℕ) (bs : List ℕ) → AreBytes bs → AreBytes (replicate n 0 ++ bs)
zeros_bytes zero bs h = h
zeros_bytes (suc n) bs h = record { small = more_bytes 0 (replicate n 0 ++ bs) (omega arith) (zeros_bytes n bs h) }

-- where a word spells the bytes before a position, after zeros as eight, the key of its last bytes is the key there
pub word_key : (fold : Fold) (text : List ℕ) (end width zeros word case : ℕ) → AreBytes text → width + zeros ≤ 8 → 8 ≤ end + zeros → end ≤ length text → word ≡ spelled (replicate zeros 0 ++ slice_range text (end - (8 - zeros)) end) → case ≡ case_bits fold
    → masked_key word width case ≡ suffix_key fold text end width
unfolding suffix_key
word_key fold text end width zeros word case bytes narrow room inside is same =
    let from : ℕ = end - (8 - zeros) in
    let part : List ℕ = slice_range text from end in
    let eight : List ℕ = replicate zeros 0 ++ part in
    let high : ℕ = 8 * (8 - width) in
    let small : AreBytes eight = zeros_bytes zeros part (range_bytes text from end inside bytes) in
    let len : length eight ≡ 8 = omega (arith, length-append (replicate zeros 0) part, length-replicate {A = ℕ} zeros 0, length-between text from end inside) in
    let fits : word < 2 ^ 64 = subst (λ n. n < 2 ^ 64) (sym is) (subst (λ n. spelled eight < 2 ^ (8 * n)) len (spelled_below eight small)) in
    let back : 8 - width ≡ length (replicate {A = ℕ} zeros 0) + (8 - width - zeros) = omega (arith, length-replicate {A = ℕ} zeros 0) in
    let last : bit_and word (suffix_mask width) ≡ spelled (replicate (8 - width) 0 ++ slice_range text (end - width) end) =
    and_high_mask 64 high (omega arith) word fits
    ∙ ap (λ n. n / 2 ^ high * 2 ^ high) is
    ∙ ap (λ n. n * 2 ^ high) (spelled-drop (8 - width) eight small)
    ∙ ap (λ n. spelled (drop n eight) * 2 ^ high) back
    ∙ ap (λ s. spelled s * 2 ^ high) (drop-append-add (replicate zeros 0) part (8 - width - zeros) ∙ drop-range text from (end - width) (8 - width - zeros) end (omega arith))
    ∙ sym (spelled-zeros (8 - width) (slice_range text (end - width) end)) in
    λ i. bit_or (last i) (same i)

folded-zeros : (fold : Fold) (n : ℕ) (bs : List ℕ) → folded_text fold (replicate n 0 ++ bs) ≡ replicate n 0 ++ folded_text fold bs
folded-zeros fold zero bs = refl
folded-zeros No (suc n) bs = ap (λ s. 0 ∷ s) (folded-zeros No n bs)
folded-zeros Ascii (suc n) bs = ap (λ s. 0 ∷ s) (folded-zeros Ascii n bs)

module _ (fold : Fold) (text t : List ℕ) (end width back : ℕ) (wide : width + back ≤ length t) (begins : length t ≤ end) (is : folded_text fold (slice_range text (end - length t) end) ≡ t) where
  -- some bytes of a literal that ends in the text, so far before its end, are the folded bytes as far before this end
  pub bytes_before : slice_range t (length t - back - width) (length t - back) ≡ folded_text fold (slice_range text (end - back - width) (end - back))
  bytes_before =
      let at : ℕ = length t - back - width in
      let from : ℕ = end - length t in
      between_is t at (length t - back)
      ∙ ap (drop at) (sym (prefix_folds fold text t end back (omega arith) begins is))
      ∙ drop-map (folded fold) at (slice_range text from (end - back))
      ∙ ap (folded_text fold) (drop-range text from (end - back - width) at (end - back) (omega arith))

  -- so they have one key
  same_key : AreBytes text → width ≤ 8 → end ≤ length text → suffix_key fold text (end - back) width ≡ suffix_key fold t (length t - back) width
  unfolding suffix_key
  same_key bytes narrow inside =
      let part : List ℕ = slice_range text (end - back - width) (end - back) in
      let zeros : List ℕ = replicate (8 - width) 0 in
      let len = length-between text (end - back - width) (end - back) (omega arith) in
      let whole : length (zeros ++ part) ≤ 8 = omega (arith, len, length-append zeros part, length-replicate {A = ℕ} (8 - width) 0) in
      let small : AreBytes (zeros ++ part) = zeros_bytes (8 - width) part (range_bytes text (end - back - width) (end - back) (omega arith) bytes) in
      subst (λ m. bit_or (spelled (zeros ++ part)) m ≡ bit_or (spelled (folded_text fold (zeros ++ part))) m) (eight_case_bits fold) (sym (spelled-folded fold 8 (zeros ++ part) whole small))
      ∙ ap (λ s. bit_or (spelled s) (case_bits fold)) (folded-zeros fold (8 - width) part)
      ∙ ap (λ s. bit_or (spelled (zeros ++ s)) (case_bits fold)) (sym bytes_before)

-- the literal that occurs is the one at its place
pub literal_is : (l : Literals) (text : List ℕ) (place end : ℕ) (occurs : Occurs l text place end) → occurs.literal ≡ literal_at l place
literal_is l text place end occurs = sym (get_or_from_slice_get l.texts place occurs.literal [] occurs.stands)

-- so far before where a literal ends, the text has the key that the literal has there
pub key-occurs_inside : (l : Literals) (text : List ℕ) (place end width back : ℕ) → AreBytes text → width ≤ 8 → width + back ≤ length (literal_at l place) → Occurs l text place end
    → suffix_key l.folding text (end - back) width ≡ suffix_key l.folding (literal_at l place) (length (literal_at l place) - back) width
key-occurs_inside l text place end width back bytes narrow wide occurs =
    let t = occurs.literal in
    subst (λ u. width + back ≤ length u → suffix_key l.folding text (end - back) width ≡ suffix_key l.folding u (length u - back) width) (literal_is l text place end occurs)
    (λ w. same_key l.folding text t end width back w occurs.begins occurs.bytes bytes narrow occurs.ends) wide

-- and where it ends, the literal's key
pub key-occurs : (l : Literals) (text : List ℕ) (place end width : ℕ) → AreBytes text → width ≤ 8 → width ≤ length (literal_at l place) → Occurs l text place end
    → suffix_key l.folding text end width ≡ suffix_key l.folding (literal_at l place) (length (literal_at l place)) width
key-occurs l text place end width bytes narrow wide occurs = simp unary_clauses at (key-occurs_inside l text place end width 0 bytes narrow (omega (arith, wide)) occurs)

-- and so has a word that spells the last eight bytes
pub word-occurs : (l : Literals) (text : List ℕ) (place end width word case : ℕ) → AreBytes text → width ≤ 8 → 8 ≤ end → width ≤ length (literal_at l place) → word ≡ spelled (slice_range text (end - 8) end) → case ≡ case_bits l.folding → Occurs l text place end
    → masked_key word width case ≡ last_key l width place
word-occurs l text place end width word case bytes narrow room wide is same occurs =
    word_key l.folding text end width 0 word case bytes (omega arith) (omega arith) occurs.ends is same ∙ key-occurs l text place end width bytes narrow wide occurs

-- equally many bytes that spell one number are one text
spelled_once : (xs ys : List ℕ) → AreBytes xs → AreBytes ys → length xs ≡ length ys → spelled xs ≡ spelled ys → xs ≡ ys
spelled_once [] [] h g len same = refl
spelled_once [] (y ∷ ys) h g len same = absurd (omega arith)
spelled_once (x ∷ xs) [] h g len same = absurd (omega arith)
spelled_once (x ∷ xs) (y ∷ ys) h g len same =
    let one : x < 256 = h.small 0 in
    let other : y < 256 = g.small 0 in
    let first : x ≡ y = omega arith in
    let rest : spelled xs ≡ spelled ys = omega arith in
    let tails : xs ≡ ys = spelled_once xs ys (rest_bytes x xs h) (rest_bytes y ys g) (omega arith) rest in
    λ i. first i ∷ tails i

-- where case counts, texts with equal keys of all bytes are equal
equal_by_key : (xs ys : List ℕ) (end : ℕ) → AreBytes xs → AreBytes ys → length xs ≤ 8 → length xs ≤ end → end ≤ length ys → suffix_key No ys end (length xs) ≡ suffix_key No xs (length xs) (length xs)
    → slice_range ys (end - length xs) end ≡ xs
unfolding suffix_key
equal_by_key xs ys end bytes others narrow room inside same =
    let width : ℕ = length xs in
    let zeros : List ℕ = replicate (8 - width) 0 in
    let part : List ℕ = slice_range ys (end - width) end in
    let start : width - width ≡ 0 = omega arith in
    let all : slice_range xs (width - width) width ≡ xs = between_to_end xs (width - width) width (omega arith) ∙ ap (λ n. drop n xs) start in
    let len : length part ≡ width = length-between ys (end - width) end inside ∙ omega arith in
    let spell : spelled (zeros ++ part) ≡ spelled (zeros ++ xs) =
    sym (or_zero_r (spelled (zeros ++ part))) ∙ same ∙ or_zero_r (spelled (zeros ++ slice_range xs (width - width) width)) ∙ ap (λ s. spelled (zeros ++ s)) all in
    append_cancel_left zeros part xs
    (spelled_once (zeros ++ part) (zeros ++ xs) (zeros_bytes (8 - width) part (range_bytes ys (end - width) end inside others)) (zeros_bytes (8 - width) xs bytes)
    (omega (arith, length-append zeros part, length-append zeros xs, len)) spell)

-- and so a literal of a few bytes ends where the text has the literal's key
pub occurs-key : (l : Literals) (text : List ℕ) (place end width : ℕ) → AreBytes text → AreBytes (literal_at l place) → l.folding ≡ No → place < length l.texts → length (literal_at l place) ≡ width → width ≤ 8 → width ≤ end → end ≤ length text
    → suffix_key l.folding text end width ≡ suffix_key l.folding (literal_at l place) (length (literal_at l place)) width → Occurs l text place end
occurs-key l text place end width bytes others case inside len narrow room within same =
    let t : List ℕ = literal_at l place in
    let whole : suffix_key No text end (length t) ≡ suffix_key No t (length t) (length t) =
    subst (λ n. suffix_key No text end n ≡ suffix_key No t (length t) n) (sym len) (subst (λ f. suffix_key f text end width ≡ suffix_key f t (length t) width) case same) in
    let part : List ℕ = slice_range text (end - length t) end in
    record {
      literal = t;
      stands = slice_get-get_or l.texts place [] inside;
      begins = omega (arith, len, room);
      ends = within;
      bytes = ap (λ f. folded_text f part) case ∙ unfolded part ∙ equal_by_key t text end others bytes (omega (arith, len, narrow)) (omega (arith, len, room)) within whole;
    }
