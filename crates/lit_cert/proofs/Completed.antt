-- A certificate whose text begins with the lines that were read: the rows that were not are zeros.
use Rattle.std.proofs.Common.{◌≡◌, ℕ, suc, ◌+◌, ◌*◌, ◌/◌, ◌^◌, ◌<◌, ◌≤◌, List, [], ◌∷◌, ◌++◌, length, get_or, take, replicate, codes, ap, ◌∙◌, length-append, zero-add, arith}
use Rattle.std.proofs.lemmas.List.{length-replicate, take-append-le, get_or_append_left, get_or_at}
use Rattle.std.proofs.lemmas.List.Elements.{All-append, All-replicate}
use Rattle.std.proofs.lemmas.List.FromFn.{take-map-range_with_len, get_or-map-range_with_len}
use Rattle.std.proofs.Math.Nat.{mul-div_cancel_left}
use Rattle.lit_cert.specs.Certificates.{CertificateNumbers}
use Rattle.lit_cert.specs.Spelling.{literals_in, IsCount, HasEnds, HasTextFor, rows_of, head_lines, lines_of}
use Rattle.lit_cert.specs.Reading.{IsRow}
use Rattle.lit_cert.proofs.Rows.{row_at}
use Rattle.lit_cert.proofs.RowsRead.{rows_of_prefix}
use Rattle.lit_cert.proofs.Plain.{IsMost}
use Rattle.lit_cert.proofs.FirstBad.{length-rows_of}

-- ends, a price and the first rows, completed by rows of zeros
abbrev pub completed : (n zeros : ℕ) → List ℕ → ℕ → List ℕ → CertificateNumbers
completed n zeros ends cost potentials = record { ends = ends; cost = cost; potentials = potentials ++ replicate (zeros * n) 0 }

-- the number of potentials gives the number of literals
pub count_is : (most n : ℕ) (c : CertificateNumbers) → IsMost most → length c.potentials ≡ most * n → literals_in most c ≡ n
count_is most n c is len = ap (λ (k : ℕ). k / most) len ∙ mul-div_cancel_left n is.some

-- how many potentials there are then
completed_len : (most n r zeros cost : ℕ) (ends ps : List ℕ) → r + zeros ≡ most → IsRow (r * n) ps → length (completed n zeros ends cost ps).potentials ≡ most * n
completed_len most n r zeros cost ends ps parts row =
    let len : length ps + zeros * n ≡ most * n = rw (row.len, ← parts) (grind arith) in
    length-append ps (replicate (zeros * n) 0) ∙ ap (λ (k : ℕ). length ps + k) (length-replicate (zeros * n) 0) ∙ len

-- it has a text
pub completed_fits : (most n r zeros cost : ℕ) (ends ps : List ℕ) → IsMost most → IsCount n → HasEnds most ends → cost < 2 ^ 64 → r + zeros ≡ most → IsRow (r * n) ps → HasTextFor most (completed n zeros ends cost ps)
completed_fits most n r zeros cost ends ps is count has small parts row =
    let len = completed_len most n r zeros cost ends ps parts row in
    let n-is = count_is most n (completed n zeros ends cost ps) is len in
    record {
      rows = rw n-is len;
      literals = rw n-is count;
      ends = has;
      small_cost = small;
      small_potentials = All-append (λ h. h < 2 ^ 64) ps (replicate (zeros * n) 0) row.numbers (All-replicate (λ h. h < 2 ^ 64) (zeros * n) 0 (omega arith));
    }

-- its lines
pub completed_lines : (most n r zeros cost : ℕ) (ends ps : List ℕ) → IsMost most → r + zeros ≡ most → IsRow (r * n) ps
    → lines_of most (completed n zeros ends cost ps) ≡ head_lines most n ends cost ++ (rows_of most n (completed n zeros ends cost ps).potentials ++ (codes "end" ∷ []) ∷ [])
completed_lines most n r zeros cost ends ps is parts row =
    let c = completed n zeros ends cost ps in
    ap (λ (k : ℕ). head_lines most k ends cost ++ (rows_of most k c.potentials ++ (codes "end" ∷ []) ∷ [])) (count_is most n c is (completed_len most n r zeros cost ends ps parts row))

-- the first rows of more are the same
take-rows_of : (most r n : ℕ) (hs : List ℕ) → r ≤ most → take r (rows_of most n hs) ≡ rows_of r n hs
unfolding rows_of
take-rows_of most r n hs le = take-map-range_with_len (row_at n hs) 0 most r le

-- its first lines are those that were read
pub completed_prefix : (most n r zeros cost : ℕ) (ends ps : List ℕ) → IsMost most → r + zeros ≡ most → IsRow (r * n) ps
    → take (r + 4) (lines_of most (completed n zeros ends cost ps)) ≡ head_lines most n ends cost ++ rows_of r n ps
completed_prefix most n r zeros cost ends ps is parts row =
    let c = completed n zeros ends cost ps in
    let k : r + 4 ≡ suc (suc (suc (suc r))) = omega arith in
    let within : r ≤ length (rows_of most n c.potentials) = omega (arith, length-rows_of most n c.potentials) in
    let rows : take r (rows_of most n c.potentials ++ (codes "end" ∷ []) ∷ []) ≡ rows_of r n ps =
    take-append-le r (rows_of most n c.potentials) ((codes "end" ∷ []) ∷ []) within
    ∙ take-rows_of most r n c.potentials (omega arith)
    ∙ rows_of_prefix r n ps (replicate (zeros * n) 0) (omega (arith, row.len)) in
    ap (take (r + 4)) (completed_lines most n r zeros cost ends ps is parts row)
    ∙ rw k (ap (λ (ls : List (List (List ℕ))). head_lines most n ends cost ++ ls) rows)

-- the line of a row
pub line_of_row : (most r : ℕ) (c : CertificateNumbers) → r < most → get_or (lines_of most c) (r + 4) [] ≡ row_at (literals_in most c) c.potentials r
unfolding rows_of
line_of_row most r c lt =
    let n = literals_in most c in
    let k : r + 4 ≡ suc (suc (suc (suc r))) = omega arith in
    let within : r < length (rows_of most n c.potentials) = omega (arith, length-rows_of most n c.potentials) in
    rw k (get_or_append_left (rows_of most n c.potentials) ((codes "end" ∷ []) ∷ []) [] r within
    ∙ get_or-map-range_with_len (row_at n c.potentials) 0 most r r [] lt (zero-add r))

-- the last line
pub line_of_end : (most : ℕ) (c : CertificateNumbers) → get_or (lines_of most c) (most + 4) [] ≡ codes "end" ∷ []
line_of_end most c =
    let n = literals_in most c in
    let k : most + 4 ≡ suc (suc (suc (suc most))) = omega arith in
    rw k (get_or_at (rows_of most n c.potentials) (codes "end" ∷ []) [] [] most (length-rows_of most n c.potentials))

-- how many literals it is for
pub count_of : (most n r zeros cost : ℕ) (ends ps : List ℕ) → IsMost most → r + zeros ≡ most → IsRow (r * n) ps → literals_in most (completed n zeros ends cost ps) ≡ n
count_of most n r zeros cost ends ps is parts row = count_is most n (completed n zeros ends cost ps) is (completed_len most n r zeros cost ends ps parts row)
