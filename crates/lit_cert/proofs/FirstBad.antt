-- The first bad line, as it is met.
use Rattle.std.proofs.Common.{◌≡◌, ◌≢◌, ℕ, ◌+◌, ◌-◌, ◌<◌, List, [], ◌∷◌, ◌++◌, length, get_or, take, map, codes, sym, ap, ◌∙◌, append_assoc, length-append, arith}
use Rattle.std.specs.List.{flat_map}
use Rattle.std.proofs.lemmas.List.{length-take-le, take_all, take_more, append-nil}
use Rattle.std.proofs.lemmas.List.Elements.{All-take}
use Rattle.std.proofs.lemmas.List.Concat.{flat_map-append}
use Rattle.std.proofs.lemmas.List.FromFn.{length-map-range_with_len}
use Rattle.lit_cert.specs.Certificates.{CertificateNumbers}
use Rattle.lit_cert.specs.Spelling.{literals_in, HasTextFor, rows_of, lines_of, line_text, spelling_for}
use Rattle.lit_cert.specs.Reading.{Follows, IsFirstBadFor}
use Rattle.lit_cert.proofs.Rows.{row_at}
use Rattle.lit_cert.proofs.Plain.{IsMost, IsPlain, plain_lines, same_lines}

-- the number of rows
pub length-rows_of : (count n : ℕ) (hs : List ℕ) → length (rows_of count n hs) ≡ count
unfolding rows_of
length-rows_of count n hs = length-map-range_with_len (row_at n hs) 0 count

-- and the number of lines
pub length-lines_of : (most : ℕ) (c : CertificateNumbers) → length (lines_of most c) ≡ most + 5
length-lines_of most c =
    let n = literals_in most c in
    omega (arith, length-append (rows_of most n c.potentials) ((codes "end" ∷ []) ∷ []), length-rows_of most n c.potentials)

-- the first lines of a certificate stand in front, and no certificate with these lines has a next line that follows
-- them
pub first_bad : (most k : ℕ) (text rest : List ℕ) (c : CertificateNumbers) → IsMost most → HasTextFor most c → k < most + 5 → text ≡ flat_map line_text (take k (lines_of most c)) ++ rest
    → ((d : CertificateNumbers) (after : List ℕ) → HasTextFor most d → map line_text (take k (lines_of most d)) ≡ map line_text (take k (lines_of most c)) → rest ≢ line_text (get_or (lines_of most d) k []) ++ after)
    → IsFirstBadFor most text (k + 1)
first_bad most k text rest c is has within e next = record {
  from_one = omega arith;
  before = (c, record { has_text = has; rest = rest; lines = rw before_is e; whole = λ past. absurd (omega (arith, length-lines_of most c)) });
  wrong = λ right. next_stands right.0 right.1;
}
  where
    before_is : k + 1 - 1 ≡ k
    before_is = omega arith

    next_stands : (d : CertificateNumbers) → Follows most text (k + 1) d → ⊥
    next_stands d follows =
        let lines = lines_of most d in
        let lt : k < length lines = omega (arith, length-lines_of most d) in
        let more : take (k + 1) lines ≡ take k lines ++ get_or lines k [] ∷ [] = take_more lines k [] lt in
        let here : text ≡ flat_map line_text (take k lines) ++ (line_text (get_or lines k []) ++ follows.rest) =
        follows.lines ∙ ap (λ (ls : List (List (List ℕ))). flat_map line_text ls ++ follows.rest) more
        ∙ ap (λ (t : List ℕ). t ++ follows.rest) (flat_map-append line_text (take k lines) (get_or lines k [] ∷ []))
        ∙ append_assoc (flat_map line_text (take k lines)) (flat_map line_text (get_or lines k [] ∷ [])) follows.rest
        ∙ ap (λ (t : List ℕ). flat_map line_text (take k lines) ++ (t ++ follows.rest)) (append-nil (line_text (get_or lines k []))) in
        let len : length (take k lines) ≡ length (take k (lines_of most c)) = length-take-le k lines (omega arith) ∙ sym (length-take-le k (lines_of most c) (omega (arith, length-lines_of most c))) in
        let same = same_lines (take k lines) (take k (lines_of most c)) (line_text (get_or lines k []) ++ follows.rest) rest len
        (All-take IsPlain k lines (plain_lines most d is follows.has_text)) (All-take IsPlain k (lines_of most c) (plain_lines most c is has)) (sym here ∙ e) in
        next d follows.rest follows.has_text same.0 (sym same.1)

-- something stands after the whole text of a certificate
pub bad_end : (most : ℕ) (text rest : List ℕ) (c : CertificateNumbers) → IsMost most → HasTextFor most c → text ≡ spelling_for most c ++ rest → rest ≢ [] → IsFirstBadFor most text (most + 6)
bad_end most text rest c is has e some = record {
  from_one = omega arith;
  before = (c, record { has_text = has; rest = rest; lines = rw (all c) e; whole = λ past. absurd (omega (arith, length-lines_of most c)) });
  wrong = λ right. none_stands right.0 right.1;
}
  where
    all : (d : CertificateNumbers) → take (most + 6 - 1) (lines_of most d) ≡ lines_of most d
    all d = take_all (most + 6 - 1) (lines_of most d) (omega (arith, length-lines_of most d))

    none_stands : (d : CertificateNumbers) → Follows most text (most + 6) d → ⊥
    none_stands d follows =
        let whole : take (most + 6) (lines_of most d) ≡ lines_of most d = take_all (most + 6) (lines_of most d) (omega (arith, length-lines_of most d)) in
        let here : text ≡ spelling_for most d ++ follows.rest = follows.lines ∙ ap (λ (ls : List (List (List ℕ))). flat_map line_text ls ++ follows.rest) whole in
        let same = same_lines (lines_of most d) (lines_of most c) follows.rest rest (length-lines_of most d ∙ sym (length-lines_of most c)) (plain_lines most d is follows.has_text) (plain_lines most c is has) (sym here ∙ e) in
        some (sym same.1 ∙ follows.whole (omega (arith, length-lines_of most d)))
