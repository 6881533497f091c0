-- What a reader of the lines has met at each of them.
use Rattle.std.proofs.Common.{◌≡◌, ◌≢◌, ℕ, ◌+◌, ◌-◌, ◌*◌, ◌^◌, ◌<◌, ◌≤◌, List, [], ◌∷◌, ◌++◌, length, get_or, take, drop, map, codes, refl, sym, ap, subst, ◌∙◌, arith}
use Rattle.std.specs.List.{flat_map}
use Rattle.std.specs.Fmt.{decimal}
use Rattle.std.proofs.lemmas.Fmt.{decimal_injective}
use Rattle.std.proofs.lemmas.List.{get_or-map, get_or-take, length-take-le, append_cancel_right, append-nil, append_assoc, length-drop}
use Rattle.std.proofs.lemmas.List.Elements.{All-nil, All-cons, All-take, All-drop}
use Rattle.std.proofs.lemmas.List.Concat.{flat_map-append}
use Rattle.std.proofs.Math.Nat.{mul-le-mul_right}
use Rattle.lit_cert.specs.Certificates.{CertificateNumbers}
use Rattle.lit_cert.specs.Spelling.{literals_in, IsCount, HasEnds, HasTextFor, literals_words, ends_words, cost_words, row_words, rows_of, head_lines, lines_of, line_text, version_words, spelling_for}
use Rattle.lit_cert.specs.Reading.{IsRow, NoLine, StartsWithHead, StartsWithRows, IsFirstBadFor}
use Rattle.lit_cert.proofs.Plain.{IsMost}
use Rattle.lit_cert.proofs.FirstBad.{first_bad, length-lines_of}
use Rattle.lit_cert.proofs.Completed.{completed, count_is, completed_fits, completed_prefix, count_of, line_of_row, line_of_end}

-- the ends and the price that a text without them is completed by
abbrev some_ends : List ℕ
some_ends = 0 ∷ []

has_some_ends : (most : ℕ) → IsMost most → HasEnds most some_ends
has_some_ends most is = record { some = omega arith; few = omega (arith, is.some); small = All-cons (λ e. e < 2 ^ 16) 0 [] (omega arith) (All-nil (λ e. e < 2 ^ 16)) }

no_row : (n : ℕ) → IsRow (0 * n) []
no_row n = record { len = grind arith; numbers = All-nil (λ x. x < 2 ^ 64) }

-- the first line, and others after it
after_version : (most : ℕ) (ls : List (List (List ℕ))) (left : List ℕ) → line_text (version_words most) ++ (flat_map line_text ls ++ left) ≡ flat_map line_text (version_words most ∷ ls) ++ left
after_version most ls left = sym (append_assoc (line_text (version_words most)) (flat_map line_text ls) left)

-- the first line is wrong
pub bad_first : (most : ℕ) (text : List ℕ) → IsMost most → ((later : List ℕ) → text ≢ line_text (version_words most) ++ later) → IsFirstBadFor most text 1
bad_first most text is none =
    first_bad most 0 text text (completed 1 most some_ends 0 []) is (completed_fits most 1 0 most 0 some_ends [] is (record { some = omega arith; few = omega arith }) (has_some_ends most is) (omega arith) (omega arith) (no_row 1)) (omega arith) refl
    (λ d later has same e. none later e)

-- the line with the number of literals is wrong
pub bad_count : (most : ℕ) (text rest : List ℕ) → IsMost most → text ≡ line_text (version_words most) ++ rest → NoLine IsCount literals_words rest → IsFirstBadFor most text 2
bad_count most text rest is e none =
    first_bad most 1 text rest (completed 1 most some_ends 0 []) is (completed_fits most 1 0 most 0 some_ends [] is (record { some = omega arith; few = omega arith }) (has_some_ends most is) (omega arith) (omega arith) (no_row 1)) (omega arith) (e ∙ after_version most [] rest)
    (λ d later has same line. none (literals_in most d) later has.literals line)

-- lines with the same text have the same number of literals
pub same_count : (m n : ℕ) → IsCount m → IsCount n → line_text (literals_words m) ≡ line_text (literals_words n) → m ≡ n
same_count m n is is' e =
    decimal_injective m n (omega (arith, is.few)) (omega (arith, is'.few)) (append_cancel_right (decimal m) (decimal n) (10 ∷ []) (ap (drop 9) e))

-- a certificate with the same lines has the same number of literals
count_from_lines : (most k n : ℕ) (c d : CertificateNumbers) → 2 ≤ k → k < most + 5 → IsCount n → literals_in most c ≡ n → HasTextFor most d → map line_text (take k (lines_of most d)) ≡ map line_text (take k (lines_of most c)) → literals_in most d ≡ n
count_from_lines most k n c d lt within count n-is has same =
    let line : line_text (literals_words (literals_in most d)) ≡ line_text (literals_words (literals_in most c)) = sym (second most k d lt within) ∙ ap (λ (ls : List (List ℕ)). get_or ls 1 []) same ∙ second most k c lt within in
    same_count (literals_in most d) n has.literals count (line ∙ ap (λ (m : ℕ). line_text (literals_words m)) n-is)
  where
    second : (most k : ℕ) (c : CertificateNumbers) → 2 ≤ k → k < most + 5 → get_or (map line_text (take k (lines_of most c))) 1 [] ≡ line_text (literals_words (literals_in most c))
    second most k c lt within =
        let len : length (take k (lines_of most c)) ≡ k = length-take-le k (lines_of most c) (omega (arith, length-lines_of most c)) in
        get_or-map line_text (take k (lines_of most c)) 1 [] [] (omega arith) ∙ ap line_text (get_or-take k (lines_of most c) 1 [] (omega arith))

-- the line of ends is wrong
pub bad_ends : (most n : ℕ) (text rest left : List ℕ) → IsMost most → text ≡ line_text (version_words most) ++ rest → IsCount n → rest ≡ line_text (literals_words n) ++ left → NoLine (HasEnds most) ends_words left → IsFirstBadFor most text 3
bad_ends most n text rest left is e count e' none =
    let c = completed n most some_ends 0 [] in
    let fits = completed_fits most n 0 most 0 some_ends [] is count (has_some_ends most is) (omega arith) (omega arith) (no_row n) in
    let n-is : literals_in most c ≡ n = count_of most n 0 most 0 some_ends [] is (omega arith) (no_row n) in
    first_bad most 2 text left c is fits (omega arith)
    (e ∙ ap (λ (t : List ℕ). line_text (version_words most) ++ t) (e' ∙ ap (λ (t : List ℕ). t ++ left) (ap (λ (m : ℕ). line_text (literals_words m)) (sym n-is) ∙ sym (append-nil (line_text (literals_words (literals_in most c))))))
    ∙ after_version most (literals_words (literals_in most c) ∷ []) left)
    (λ d later has same line. none d.ends later has.ends line)

-- two texts, and what follows
joined_two : (a b x : List ℕ) → a ++ (b ++ x) ≡ (a ++ (b ++ [])) ++ x
joined_two a b x = simp (append_assoc, append-nil)

-- three texts, and what follows
joined_three : (a b d x : List ℕ) → a ++ (b ++ (d ++ x)) ≡ (a ++ (b ++ (d ++ []))) ++ x
joined_three a b d x = simp (append_assoc, append-nil)

-- the line of the price is wrong
pub bad_cost : (most n : ℕ) (ends text rest left : List ℕ) (after_ends : List ℕ) → IsMost most → text ≡ line_text (version_words most) ++ rest → IsCount n → rest ≡ line_text (literals_words n) ++ left → HasEnds most ends → left ≡ line_text (ends_words ends) ++ after_ends → NoLine (λ cost. cost < 2 ^ 64) cost_words after_ends → IsFirstBadFor most text 4
bad_cost most n ends text rest left after_ends is e count e' has_ends e'' none =
    let c = completed n most ends 0 [] in
    let fits = completed_fits most n 0 most 0 ends [] is count has_ends (omega arith) (omega arith) (no_row n) in
    let n-is : literals_in most c ≡ n = count_of most n 0 most 0 ends [] is (omega arith) (no_row n) in
    let after : rest ≡ (line_text (literals_words n) ++ (line_text (ends_words ends) ++ [])) ++ after_ends = e' ∙ ap (λ (t : List ℕ). line_text (literals_words n) ++ t) e'' ∙ joined_two (line_text (literals_words n)) (line_text (ends_words ends)) after_ends in
    first_bad most 3 text after_ends c is fits (omega arith)
    (e ∙ ap (λ (t : List ℕ). line_text (version_words most) ++ t) (after ∙ ap (λ (m : ℕ). (line_text (literals_words m) ++ (line_text (ends_words ends) ++ [])) ++ after_ends) (sym n-is))
    ∙ after_version most (literals_words (literals_in most c) ∷ ends_words ends ∷ []) after_ends)
    (λ d later has same line. none d.cost later has.small_cost line)

-- the lines that were read before the rows
pub head_read : (most n cost : ℕ) (ends text rest left after_ends after_cost : List ℕ) → text ≡ line_text (version_words most) ++ rest → IsCount n → rest ≡ line_text (literals_words n) ++ left → HasEnds most ends → left ≡ line_text (ends_words ends) ++ after_ends → cost < 2 ^ 64 → after_ends ≡ line_text (cost_words cost) ++ after_cost → StartsWithHead most n cost ends text after_cost
head_read most n cost ends text rest left after_ends after_cost first count second has_ends third small fourth =
    let after : rest ≡ (line_text (literals_words n) ++ (line_text (ends_words ends) ++ (line_text (cost_words cost) ++ []))) ++ after_cost =
    second ∙ ap (λ (t : List ℕ). line_text (literals_words n) ++ t) (third ∙ ap (λ (t : List ℕ). line_text (ends_words ends) ++ t) fourth) ∙ joined_three (line_text (literals_words n)) (line_text (ends_words ends)) (line_text (cost_words cost)) after_cost in
    record { count = count; has_ends = has_ends; small_cost = small; lines = first ∙ ap (λ (t : List ℕ). line_text (version_words most) ++ t) after ∙ after_version most (literals_words n ∷ ends_words ends ∷ cost_words cost ∷ []) after_cost }

-- a row of a certificate
row_of_certificate : (most n r : ℕ) (d : CertificateNumbers) → HasTextFor most d → literals_in most d ≡ n → r < most → IsRow n (take (literals_in most d) (drop (r * literals_in most d) d.potentials))
row_of_certificate most n r d has n-is lt =
    let m = literals_in most d in
    let room : m ≤ length (drop (r * m) d.potentials) = simp length-drop (enough (length d.potentials) m has.rows) in
    record {
      len = length-take-le m (drop (r * m) d.potentials) room ∙ n-is;
      numbers = All-take (λ x. x < 2 ^ 64) m (drop (r * m) d.potentials) (All-drop (λ x. x < 2 ^ 64) (r * m) d.potentials has.small_potentials);
    }
  where
    enough : (len m : ℕ) → len ≡ most * m → m ≤ len - r * m
    enough len m e =
        let more : (r + 1) * m ≤ most * m = mul-le-mul_right m (omega arith) in
        let split : (r + 1) * m ≡ r * m + m = grind arith in
        omega arith

-- the text of all lines read, rows included
lines_read : (most n cost r : ℕ) (ends text rest ps left : List ℕ) → StartsWithHead most n cost ends text rest → StartsWithRows r n rest ps left → text ≡ flat_map line_text (head_lines most n ends cost ++ rows_of r n ps) ++ left
lines_read most n cost r ends text rest ps left head rows =
    let lines = head_lines most n ends cost in
    head.lines ∙ ap (λ (t : List ℕ). flat_map line_text lines ++ t) rows.lines
    ∙ sym (append_assoc (flat_map line_text lines) (flat_map line_text (rows_of r n ps)) left)
    ∙ ap (λ (t : List ℕ). t ++ left) (sym (flat_map-append line_text lines (rows_of r n ps)))

-- a line after r rows is wrong
bad_after : (most n cost r : ℕ) (ends text rest ps left : List ℕ) → IsMost most → StartsWithHead most n cost ends text rest → r ≤ most → StartsWithRows r n rest ps left
    → ((d : CertificateNumbers) (later : List ℕ) → HasTextFor most d → literals_in most d ≡ n → left ≢ line_text (get_or (lines_of most d) (r + 4) []) ++ later) → IsFirstBadFor most text (r + 5)
bad_after most n cost r ends text rest ps left is head le rows none =
    let zeros = most - r in
    let c = completed n zeros ends cost ps in
    let fits = completed_fits most n r zeros cost ends ps is head.count head.has_ends head.small_cost (omega arith) rows.row in
    let n-is : literals_in most c ≡ n = count_of most n r zeros cost ends ps is (omega arith) rows.row in
    let prefix = completed_prefix most n r zeros cost ends ps is (omega arith) rows.row in
    let number : r + 4 + 1 ≡ r + 5 = omega arith in
    subst (IsFirstBadFor most text) number (first_bad most (r + 4) text left c is fits (omega arith)
    (lines_read most n cost r ends text rest ps left head rows ∙ ap (λ (ls : List (List (List ℕ))). flat_map line_text ls ++ left) (sym prefix))
    (λ d later has same. none d later has (count_from_lines most (r + 4) n c d (omega arith) (omega arith) head.count n-is has same)))

-- a row is wrong
pub bad_row : (most n cost r : ℕ) (ends text rest ps left : List ℕ) → IsMost most → StartsWithHead most n cost ends text rest → r < most → StartsWithRows r n rest ps left → NoLine (IsRow n) (row_words (r + 1)) left → IsFirstBadFor most text (r + 5)
bad_row most n cost r ends text rest ps left is head lt rows none =
    bad_after most n cost r ends text rest ps left is head (omega arith) rows (λ d later has n-is e.
    none (take (literals_in most d) (drop (r * literals_in most d) d.potentials)) later (row_of_certificate most n r d has n-is lt) (e ∙ ap (λ (l : List (List ℕ)). line_text l ++ later) (line_of_row most r d lt)))

-- the last line is wrong
pub bad_last : (most n cost : ℕ) (ends text rest ps left : List ℕ) → IsMost most → StartsWithHead most n cost ends text rest → StartsWithRows most n rest ps left → ((later : List ℕ) → left ≢ codes "end" ++ 10 ∷ later) → IsFirstBadFor most text (most + 5)
bad_last most n cost ends text rest ps left is head rows none =
    bad_after most n cost most ends text rest ps left is head (omega arith) rows (λ d later has n-is e.
    none later (e ∙ ap (λ (l : List (List ℕ)). line_text l ++ later) (line_of_end most d)))

-- all lines were read
pub all_read : (most n cost : ℕ) (ends text rest ps left later : List ℕ) → IsMost most → StartsWithHead most n cost ends text rest → StartsWithRows most n rest ps left → left ≡ codes "end" ++ 10 ∷ later → HasTextFor most (record { ends = ends; cost = cost; potentials = ps }) × (text ≡ spelling_for most (record { ends = ends; cost = cost; potentials = ps }) ++ later)
all_read most n cost ends text rest ps left later is head rows e =
    let c : CertificateNumbers = record { ends = ends; cost = cost; potentials = ps } in
    let n-is : literals_in most c ≡ n = count_is most n c is rows.row.len in
    let lines = head_lines most n ends cost ++ rows_of most n ps in
    let end = (codes "end" ∷ []) ∷ [] in
    let text_is : text ≡ flat_map line_text (lines ++ end) ++ later =
    lines_read most n cost most ends text rest ps left head rows
    ∙ ap (λ (t : List ℕ). flat_map line_text lines ++ t) e
    ∙ sym (append_assoc (flat_map line_text lines) (flat_map line_text end) later)
    ∙ ap (λ (t : List ℕ). t ++ later) (sym (flat_map-append line_text lines end)) in (
      record { rows = rows.row.len ∙ ap (λ (k : ℕ). most * k) (sym n-is); literals = rw n-is head.count; ends = head.has_ends; small_cost = head.small_cost; small_potentials = rows.row.numbers },
      text_is ∙ ap (λ (ls : List (List (List ℕ))). flat_map line_text ls ++ later) (append_assoc (head_lines most n ends cost) (rows_of most n ps) end)
          ∙ ap (λ (k : ℕ). flat_map line_text (head_lines most k ends cost ++ (rows_of most k ps ++ end)) ++ later) (sym n-is),
    )
