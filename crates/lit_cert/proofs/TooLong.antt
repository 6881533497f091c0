-- A prefix that is longer than any certificate's text has the right lines of the whole text.
use Rattle.std.proofs.Common.{◌≡◌, ℕ, ◌+◌, ◌*◌, ◌<◌, ◌≤◌, List, ◌++◌, length, take, drop, refl, sym, ap, ◌∙◌, append_assoc, length-append, arith}
use Rattle.std.specs.List.{flat_map}
use Rattle.std.proofs.lemmas.List.{take-append-le, take-append-drop, take_at, append-nil}
use Rattle.std.proofs.lemmas.List.Concat.{flat_map-append}
use Rattle.lit_cert.specs.Certificates.{CertificateNumbers}
use Rattle.lit_cert.specs.Spelling.{HasTextFor, lines_of, line_text, spelling_for}
use Rattle.lit_cert.specs.Reading.{Follows, IsRightFor}
use Rattle.lit_cert.proofs.Plain.{IsMost}
use Rattle.lit_cert.proofs.Lengths.{length-spelling_for-le}

-- a text longer than any certificate's
abbrev pub IsLong : ℕ → List ℕ → Type 0
IsLong most text = 200 + most * 86200 < length text

-- the first lines and the others are the text
spelling_parts : (most k : ℕ) (c : CertificateNumbers) → spelling_for most c ≡ flat_map line_text (take k (lines_of most c)) ++ flat_map line_text (drop k (lines_of most c))
spelling_parts most k c = ap (flat_map line_text) (sym (take-append-drop k (lines_of most c))) ∙ flat_map-append line_text (take k (lines_of most c)) (drop k (lines_of most c))

-- the first lines are no longer
prefix_len : (most k : ℕ) (c : CertificateNumbers) → IsMost most → HasTextFor most c → length (flat_map line_text (take k (lines_of most c))) ≤ 200 + most * 86200
prefix_len most k c is has =
    omega (arith, length-spelling_for-le most c is has, ap length (spelling_parts most k c), length-append (flat_map line_text (take k (lines_of most c))) (flat_map line_text (drop k (lines_of most c))))

-- past the last line nothing stands, so the text is not longer than the certificate's
past_end : (most k : ℕ) (text : List ℕ) (c : CertificateNumbers) → IsMost most → IsLong most text → (follows : Follows most text k c) → length (lines_of most c) < k → ⊥
past_end most k text c is long follows past =
    let all : text ≡ flat_map line_text (take k (lines_of most c)) = follows.lines ∙ ap (λ (t : List ℕ). flat_map line_text (take k (lines_of most c)) ++ t) (follows.whole past) ∙ append-nil (flat_map line_text (take k (lines_of most c))) in
    let len = prefix_len most k c is follows.has_text in
    omega (arith, ap length all)

-- lines of the prefix are lines of the text
pub right_after : (most k : ℕ) (prefix rest : List ℕ) → IsMost most → IsLong most prefix → IsRightFor most prefix k → IsRightFor most (prefix ++ rest) k
right_after most k prefix rest is long right =
    let follows = right.1 in (
      right.0,
      record {
        has_text = follows.has_text;
        rest = follows.rest ++ rest;
        lines = ap (λ (t : List ℕ). t ++ rest) follows.lines ∙ append_assoc (flat_map line_text (take k (lines_of most right.0))) follows.rest rest;
        whole = λ past. absurd (past_end most k prefix right.0 is long follows past);
      },
    )

-- and the other way round
pub right_in_prefix : (most k : ℕ) (prefix rest : List ℕ) → IsMost most → IsLong most prefix → IsRightFor most (prefix ++ rest) k → IsRightFor most prefix k
right_in_prefix most k prefix rest is long right =
    let c = right.0 in
    let follows = right.1 in
    let lines = flat_map line_text (take k (lines_of most c)) in
    let within : length lines ≤ length prefix = omega (arith, prefix_len most k c is follows.has_text) in
    let cut : take (length lines) prefix ≡ lines = sym (take-append-le (length lines) prefix rest within) ∙ ap (take (length lines)) follows.lines ∙ take_at lines follows.rest (length lines) refl in (
      c,
      record {
        has_text = follows.has_text;
        rest = drop (length lines) prefix;
        lines = sym (take-append-drop (length lines) prefix) ∙ ap (λ (t : List ℕ). t ++ drop (length lines) prefix) cut;
        whole = λ past. absurd (past_end most k (prefix ++ rest) c is (omega (arith, length-append prefix rest)) follows past);
      },
    )
