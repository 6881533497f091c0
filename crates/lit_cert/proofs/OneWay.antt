-- All lines of a certificate's text are right, and two certificates with one text are one.
use Rattle.std.proofs.Common.{◌≡◌, ℕ, zero, suc, ◌+◌, ◌*◌, ◌^◌, ◌<◌, ◌≤◌, List, [], ◌∷◌, ◌++◌, length, get_or, take, drop, map, All, refl, sym, ap, ◌∙◌, append_assoc, arith}
use Rattle.std.specs.List.{flat_map, join_with_byte}
use Rattle.std.specs.Fmt.{decimal}
use Rattle.std.proofs.Math.Seq.{take-add}
use Rattle.std.proofs.lemmas.Fmt.{decimal_injective}
use Rattle.std.proofs.lemmas.List.{take-take, take-append-drop, take_all, drop_all, append-nil, append_cancel_right, get_or-map, length-take}
use Rattle.std.proofs.lemmas.List.Elements.{All-take, All-drop, All-weaker, All-cons}
use Rattle.std.proofs.lemmas.List.Concat.{flat_map-append}
use Rattle.lit_cert.specs.Certificates.{CertificateNumbers}
use Rattle.lit_cert.specs.Spelling.{literals_in, HasTextFor, HasEnds, ends_words, cost_words, row_words, lines_of, line_text, spelling_for}
use Rattle.lit_cert.specs.Reading.{AreNumbers, IsRightFor}
use Rattle.lit_cert.proofs.Rows.{row_at}
use Rattle.lit_cert.proofs.RowLines.{same_numbers}
use Rattle.lit_cert.proofs.Plain.{IsMost, plain_lines, same_lines}
use Rattle.lit_cert.proofs.FirstBad.{length-lines_of}
use Rattle.lit_cert.proofs.Lines.{ends_join}
use Rattle.lit_cert.proofs.Completed.{line_of_row}
use Rattle.lit_cert.proofs.Exits.{same_count}

-- fewer lines of it are right too
pub fewer_lines : (most j k : ℕ) (text : List ℕ) → j ≤ k → IsRightFor most text k → IsRightFor most text j
fewer_lines most j k text le right =
    let c = right.0 in
    let follows = right.1 in
    let lines = lines_of most c in
    let more = drop j (take k lines) in
    let parts : take k lines ≡ take j lines ++ more = sym (take-append-drop j (take k lines)) ∙ ap (λ (ls : List (List (List ℕ))). ls ++ more) (take-take j k lines le) in (
      c,
      record {
        has_text = follows.has_text;
        rest = flat_map line_text more ++ follows.rest;
        lines = follows.lines
            ∙ ap (λ (ls : List (List (List ℕ))). flat_map line_text ls ++ follows.rest) parts
            ∙ ap (λ (t : List ℕ). t ++ follows.rest) (flat_map-append line_text (take j lines) more)
            ∙ append_assoc (flat_map line_text (take j lines)) (flat_map line_text more) follows.rest;
        whole = λ past.
            ap (λ (ls : List (List (List ℕ))). flat_map line_text ls ++ follows.rest) (drop_all j (take k lines) (omega (arith, length-take k lines)))
            ∙ follows.whole (omega arith);
      },
    )

-- all lines of a certificate's text are right
pub right_lines : (most k : ℕ) (text : List ℕ) (c : CertificateNumbers) → HasTextFor most c → text ≡ spelling_for most c → IsRightFor most text k
right_lines most k text c has e =
    let lines = lines_of most c in (
      c,
      record {
        has_text = has;
        rest = flat_map line_text (drop k lines);
        lines = e ∙ ap (flat_map line_text) (sym (take-append-drop k lines)) ∙ flat_map-append line_text (take k lines) (drop k lines);
        whole = λ past. ap (flat_map line_text) (drop_all k lines (omega arith));
      },
    )

-- lists that are the same row by row are the same as far as the rows go
rows_same : (count n : ℕ) (hs gs : List ℕ) → ((r : ℕ) → r < count → take n (drop (r * n) hs) ≡ take n (drop (r * n) gs)) → take (count * n) hs ≡ take (count * n) gs
rows_same zero n hs gs same = ap (λ (k : ℕ). take k hs) none ∙ sym (ap (λ (k : ℕ). take k gs) none)
  where
    none : 0 * n ≡ 0
    none = omega arith
rows_same (suc count) n hs gs same =
    let next : suc count * n ≡ count * n + n = grind arith in
    rw next (take-add (count * n) n hs
    ∙ ap (λ (t : List ℕ). t ++ take n (drop (count * n) hs)) (rows_same count n hs gs (λ r lt. same r (omega arith)))
    ∙ ap (λ (t : List ℕ). take (count * n) gs ++ t) (same count (omega arith))
    ∙ sym (take-add (count * n) n gs))

-- lines with one text have equal joined words
same_joined : (ws vs : List (List ℕ)) → line_text ws ≡ line_text vs → join_with_byte 32 ws ≡ join_with_byte 32 vs
same_joined ws vs e = append_cancel_right (join_with_byte 32 ws) (join_with_byte 32 vs) (10 ∷ []) e

-- one line of ends has the same ends
same_ends : (most : ℕ) (es fs : List ℕ) → HasEnds most es → HasEnds most fs → line_text (ends_words es) ≡ line_text (ends_words fs) → es ≡ fs
same_ends most es fs has has' e =
    let wide = λ (xs : List ℕ) (small : All (λ x. x < 2 ^ 16) xs). All-weaker (λ x. x < 2 ^ 16) (λ x. x < 2 ^ 64) (λ x lt. omega arith) xs small in
    let joined : join_with_byte 32 (map decimal es) ≡ join_with_byte 32 (map decimal fs) =
    ap (drop 5) (sym (ends_join es has.some) ∙ same_joined (ends_words es) (ends_words fs) e ∙ ends_join fs has'.some) in
    same_numbers (join_with_byte 32 (map decimal es)) es fs has.some has'.some (wide es has.small) (wide fs has'.small) refl joined

-- one line of a row has the same potentials
same_row : (number : ℕ) (xs ys : List ℕ) → number < 2 ^ 64 → AreNumbers xs → AreNumbers ys → line_text (row_words number xs) ≡ line_text (row_words number ys) → xs ≡ ys
same_row number xs ys small numbers numbers' e =
    let head = λ (zs : List ℕ) (n : AreNumbers zs). All-cons (λ x. x < 2 ^ 64) number zs small n in
    ap (drop 1) (same_numbers (join_with_byte 32 (map decimal (number ∷ xs))) (number ∷ xs) (number ∷ ys) (omega arith) (omega arith) (head xs numbers) (head ys numbers') refl (same_joined (row_words number xs) (row_words number ys) e))

abbrev made : List ℕ → ℕ → List ℕ → CertificateNumbers
made es k hs = record { ends = es; cost = k; potentials = hs }

-- certificates are their parts
same_parts : (c d : CertificateNumbers) → c.ends ≡ d.ends → c.cost ≡ d.cost → c.potentials ≡ d.potentials → c ≡ d
same_parts c d ends cost potentials =
    ap (λ (es : List ℕ). made es c.cost c.potentials) ends ∙ ap (λ (k : ℕ). made d.ends k c.potentials) cost ∙ ap (λ (hs : List ℕ). made d.ends d.cost hs) potentials

-- two certificates with one text are one
pub one_certificate : (most : ℕ) (c d : CertificateNumbers) → IsMost most → HasTextFor most c → HasTextFor most d → spelling_for most c ≡ spelling_for most d → c ≡ d
one_certificate most c d is has has' e =
    let lines = (same_lines (lines_of most c) (lines_of most d) [] [] (length-lines_of most c ∙ sym (length-lines_of most d)) (plain_lines most c is has) (plain_lines most d is has') (append-nil (spelling_for most c) ∙ e ∙ sym (append-nil (spelling_for most d)))).0 in
    let n = literals_in most c in
    let count : n ≡ literals_in most d = same_count n (literals_in most d) has.literals has'.literals (ap (λ (ls : List (List ℕ)). get_or ls 1 []) lines) in
    let ends : c.ends ≡ d.ends = same_ends most c.ends d.ends has.ends has'.ends (ap (λ (ls : List (List ℕ)). get_or ls 2 []) lines) in
    let cost : c.cost ≡ d.cost = decimal_injective c.cost d.cost has.small_cost has'.small_cost (ap (drop 5) (same_joined (cost_words c.cost) (cost_words d.cost) (ap (λ (ls : List (List ℕ)). get_or ls 3 []) lines))) in
    let parts = λ (xs : List ℕ) (small : AreNumbers xs) (r : ℕ). All-take (λ x. x < 2 ^ 64) n (drop (r * n) xs) (All-drop (λ x. x < 2 ^ 64) (r * n) xs small) in
    let row = λ (r : ℕ) (lt : r < most).
    let text : line_text (row_at n c.potentials r) ≡ line_text (row_at n d.potentials r) =
    sym (text_of_row c r lt) ∙ ap (λ (ls : List (List ℕ)). get_or ls (r + 4) []) lines ∙ text_of_row d r lt ∙ ap (λ (m : ℕ). line_text (row_at m d.potentials r)) (sym count) in
    same_row (r + 1) (take n (drop (r * n) c.potentials)) (take n (drop (r * n) d.potentials)) (omega (arith, is.few)) (parts c.potentials has.small_potentials r) (parts d.potentials has'.small_potentials r) text in
    let len : length d.potentials ≡ most * n = has'.rows ∙ ap (λ (k : ℕ). most * k) (sym count) in
    let potentials : c.potentials ≡ d.potentials =
    sym (take_all (most * n) c.potentials (omega (arith, has.rows))) ∙ rows_same most n c.potentials d.potentials row ∙ take_all (most * n) d.potentials (omega (arith, len)) in
    same_parts c d ends cost potentials
  where
    text_of_row : (c : CertificateNumbers) (r : ℕ) → r < most → get_or (map line_text (lines_of most c)) (r + 4) [] ≡ line_text (row_at (literals_in most c) c.potentials r)
    text_of_row c r lt = get_or-map line_text (lines_of most c) (r + 4) [] [] (omega (arith, length-lines_of most c)) ∙ ap line_text (line_of_row most r c lt)
