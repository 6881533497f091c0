-- How long a certificate's text is at most.
use Rattle.std.proofs.Common.{◌≡◌, ℕ, zero, suc, ◌+◌, ◌*◌, ◌^◌, ◌<◌, ◌≤◌, List, [], ◌∷◌, ◌++◌, length, take, drop, map, codes, All, ap, ◌∙◌, length-append, arith}
use Rattle.std.specs.List.{flat_map, join_with_byte}
use Rattle.std.specs.Fmt.{decimal}
use Rattle.std.proofs.lemmas.Fmt.{length-decimal-le}
use Rattle.std.proofs.lemmas.List.{length-map, length-take}
use Rattle.std.proofs.lemmas.List.Elements.{All-nil, All-cons, All-head, All-tail, All-map, All-weaker, All-take, All-drop}
use Rattle.std.proofs.lemmas.List.Concat.{flat_map-append}
use Rattle.std.proofs.Math.Nat.{mul-le-mul_left}
use Rattle.lit_cert.specs.Certificates.{CertificateNumbers}
use Rattle.lit_cert.specs.Spelling.{literals_in, HasTextFor, literals_words, ends_words, cost_words, row_words, rows_of, head_lines, line_text, version_of, version_words, spelling_for}
use Rattle.lit_cert.specs.Reading.{AreNumbers}
use Rattle.lit_cert.proofs.Rows.{row_at, rows_of_more, rows_of_none}
use Rattle.lit_cert.proofs.Plain.{IsMost, version-lt}

-- no word is longer than a number of 64 bits can be
abbrev AreShort : List (List ℕ) → Type 0
AreShort words = All (λ w. length w ≤ 20) words

-- a bound of the bytes of a line
length-line_text-le : (words : List (List ℕ)) → AreShort words → length (line_text words) ≤ 21 * length words + 1
length-line_text-le words short = omega (arith, joined words short, length-append (join_with_byte 32 words) (10 ∷ []))
  where
    joined : (words : List (List ℕ)) → AreShort words → length (join_with_byte 32 words) ≤ 21 * length words
    joined [] short = omega arith
    joined (w ∷ []) short = omega (arith, All-head (λ w. length w ≤ 20) w [] short)
    joined (w ∷ v ∷ words) short =
        omega (arith, All-head (λ w. length w ≤ 20) w (v ∷ words) short, joined (v ∷ words) (All-tail (λ w. length w ≤ 20) w (v ∷ words) short), length-append w (32 ∷ join_with_byte 32 (v ∷ words)))

-- numbers are short
short_numbers : (xs : List ℕ) → AreNumbers xs → AreShort (map decimal xs)
short_numbers xs numbers = All-map (λ w. length w ≤ 20) decimal xs (All-weaker (λ x. x < 2 ^ 64) (λ x. length (decimal x) ≤ 20) (λ x small. length-decimal-le 20 x (omega arith) (omega arith) small) xs numbers)

-- a bound of the bytes of a line of a word and numbers
numbered_line : (w : List ℕ) (xs : List ℕ) → length w ≤ 20 → AreNumbers xs → length (line_text (w ∷ map decimal xs)) ≤ 21 * (length xs + 1) + 1
numbered_line w xs short numbers =
    omega (arith, length-line_text-le (w ∷ map decimal xs) (All-cons (λ w. length w ≤ 20) w (map decimal xs) short (short_numbers xs numbers)), length-map xs decimal)

-- and rows
rows_len : (most count n : ℕ) (hs : List ℕ) → IsMost most → count ≤ most → AreNumbers hs → length (flat_map line_text (rows_of count n hs)) ≤ count * (21 * (n + 1) + 1)
rows_len most zero n hs is few numbers = omega (arith, ap length (rows_of_none n hs []))
rows_len most (suc count) n hs is few numbers =
    let next : suc count ≡ count + 1 = omega arith in
    let row = take n (drop (count * n) hs) in
    let small : AreNumbers ((count + 1) ∷ []) = All-cons (λ x. x < 2 ^ 64) (count + 1) [] (omega (arith, is.few)) (All-nil (λ x. x < 2 ^ 64)) in
    let number : length (decimal (count + 1)) ≤ 20 = length-decimal-le 20 (count + 1) (omega arith) (omega (arith, is.few)) (omega (arith, is.few)) in
    let line : length (line_text (row_words (count + 1) row)) ≤ 21 * (length row + 1) + 1 = numbered_line (decimal (count + 1)) row number (All-take (λ x. x < 2 ^ 64) n (drop (count * n) hs) (All-drop (λ x. x < 2 ^ 64) (count * n) hs numbers)) in
    let width : length row ≤ n = omega (arith, length-take n (drop (count * n) hs)) in
    let before = rows_len most count n hs is (omega arith) numbers in
    let text : flat_map line_text (rows_of (count + 1) n hs) ≡ flat_map line_text (rows_of count n hs) ++ (line_text (row_words (count + 1) row) ++ []) =
    ap (flat_map line_text) (rows_of_more count n hs) ∙ flat_map-append line_text (rows_of count n hs) (row_at n hs count ∷ []) in
    let len : length (flat_map line_text (rows_of (count + 1) n hs)) ≤ count * (21 * (n + 1) + 1) + (21 * (n + 1) + 1) =
    omega (arith, ap length text, length-append (flat_map line_text (rows_of count n hs)) (line_text (row_words (count + 1) row) ++ []), length-append (line_text (row_words (count + 1) row)) []) in
    rw next (grind (arith, len))

-- four texts
four_lens : (a b d e : List ℕ) → length (a ++ (b ++ (d ++ (e ++ [])))) ≡ length a + length b + length d + length e
four_lens a b d e = simp (length-append) (omega arith)

-- three texts
three_lens : (a b d : List ℕ) → length (a ++ (b ++ d)) ≡ length a + length b + length d
three_lens a b d = simp (length-append) (omega arith)

-- the whole text
pub length-spelling_for-le : (most : ℕ) (c : CertificateNumbers) → IsMost most → HasTextFor most c → length (spelling_for most c) ≤ 200 + most * 86200
length-spelling_for-le most c is has =
    let n = literals_in most c in
    let rows = rows_of most n c.potentials in
    let end = (codes "end" ∷ []) ∷ [] in
    let head = head_lines most n c.ends c.cost in
    let one : AreNumbers (n ∷ []) = All-cons (λ x. x < 2 ^ 64) n [] (omega (arith, has.literals.few)) (All-nil (λ x. x < 2 ^ 64)) in
    let ends : AreNumbers c.ends = All-weaker (λ x. x < 2 ^ 16) (λ x. x < 2 ^ 64) (λ x small. omega arith) c.ends has.ends.small in
    let price : AreNumbers (c.cost ∷ []) = All-cons (λ x. x < 2 ^ 64) c.cost [] has.small_cost (All-nil (λ x. x < 2 ^ 64)) in
    let version : AreNumbers (version_of most ∷ []) = All-cons (λ x. x < 2 ^ 64) (version_of most) [] (version-lt most) (All-nil (λ x. x < 2 ^ 64)) in
    let first = numbered_line (codes "litcert") (version_of most ∷ []) (omega arith) version in
    let second = numbered_line (codes "literals") (n ∷ []) (omega arith) one in
    let third = numbered_line (codes "ends") c.ends (omega arith) ends in
    let fourth = numbered_line (codes "cost") (c.cost ∷ []) (omega arith) price in
    let rows_le : length (flat_map line_text rows) ≤ most * (21 * (n + 1) + 1) = rows_len most most n c.potentials is (omega arith) has.small_potentials in
    let wide : most * (21 * (n + 1) + 1) ≤ most * 86038 = mul-le-mul_left most (omega (arith, has.literals.few)) in
    let parts : spelling_for most c ≡ flat_map line_text head ++ (flat_map line_text rows ++ flat_map line_text end) =
    flat_map-append line_text head (rows ++ end) ∙ ap (λ (t : List ℕ). flat_map line_text head ++ t) (flat_map-append line_text rows end) in
    let head_len : length (flat_map line_text head) ≡ length (line_text (version_words most)) + length (line_text (literals_words n)) + length (line_text (ends_words c.ends)) + length (line_text (cost_words c.cost)) =
    four_lens (line_text (version_words most)) (line_text (literals_words n)) (line_text (ends_words c.ends)) (line_text (cost_words c.cost)) in
    let whole = ap length parts ∙ three_lens (flat_map line_text head) (flat_map line_text rows) (flat_map line_text end) in
    omega (arith, has.ends.few, is.some)
