-- Reading the rows one after the other.
use Rattle.std.proofs.Common.{◌≡◌, ℕ, zero, suc, ◌+◌, ◌-◌, ◌*◌, ◌^◌, ◌<◌, ◌≤◌, List, [], ◌∷◌, ◌++◌, length, take, drop, refl, sym, ap, ◌∙◌, append_assoc, length-append, arith}
use Rattle.std.specs.List.{flat_map}
use Rattle.std.proofs.lemmas.List.{take-append-le, drop-append-le, take_all, drop_at, length-drop, flat_map_more}
use Rattle.std.proofs.lemmas.List.Elements.{All-append}
use Rattle.lit_cert.specs.Spelling.{line_text, row_words, rows_of}
use Rattle.lit_cert.specs.Reading.{IsRow, StartsWithRows}
use Rattle.lit_cert.proofs.Rows.{row_at, rows_of_more}

-- a row does not see what stands after it
row_at_prefix : (n r : ℕ) (ps xs : List ℕ) → (r + 1) * n ≤ length ps → row_at n (ps ++ xs) r ≡ row_at n ps r
row_at_prefix n r ps xs within =
    let before : r * n ≤ length ps = grind arith in
    let room : n ≤ length (drop (r * n) ps) = simp length-drop (grind arith) in
    let dropped : drop (r * n) (ps ++ xs) ≡ drop (r * n) ps ++ xs = drop-append-le (r * n) ps xs before in
    ap (λ (hs : List ℕ). row_words (r + 1) (take n hs)) dropped ∙ ap (row_words (r + 1)) (take-append-le n (drop (r * n) ps) xs room)

-- no row
no_rows : (n : ℕ) (ps : List ℕ) → rows_of 0 n ps ≡ []
unfolding rows_of
no_rows n ps = refl

-- nor do the first rows
pub rows_of_prefix : (count n : ℕ) (ps xs : List ℕ) → count * n ≤ length ps → rows_of count n (ps ++ xs) ≡ rows_of count n ps
rows_of_prefix zero n ps xs within = no_rows n (ps ++ xs) ∙ sym (no_rows n ps)
rows_of_prefix (suc count) n ps xs within =
    let next : suc count ≡ count + 1 = omega arith in
    let room : (count + 1) * n ≤ length ps = rw (← next) within in
    let shorter : count * n ≤ length ps = grind arith in
    rw next (rows_of_more count n (ps ++ xs)
    ∙ ap (λ (ls : List (List (List ℕ))). ls ++ row_at n (ps ++ xs) count ∷ []) (rows_of_prefix count n ps xs shorter)
    ∙ ap (λ (l : List (List ℕ)). rows_of count n ps ++ l ∷ []) (row_at_prefix n count ps xs room)
    ∙ sym (rows_of_more count n ps))

-- one row more
pub rows_of_push : (r n : ℕ) (ps row : List ℕ) → length ps ≡ r * n → length row ≡ n → rows_of (r + 1) n (ps ++ row) ≡ rows_of r n ps ++ row_words (r + 1) row ∷ []
rows_of_push r n ps row len width =
    let last : take n (drop (r * n) (ps ++ row)) ≡ row = ap (take n) (drop_at ps row (r * n) len) ∙ take_all n row (omega arith) in
    rows_of_more r n (ps ++ row)
    ∙ ap (λ (ls : List (List (List ℕ))). ls ++ row_at n (ps ++ row) r ∷ []) (rows_of_prefix r n ps row (omega arith))
    ∙ ap (λ (hs : List ℕ). rows_of r n ps ++ row_words (r + 1) hs ∷ []) last

-- before the first row
pub starts_none : (n : ℕ) (text : List ℕ) → StartsWithRows 0 n text [] text
unfolding rows_of
starts_none n text = record { row = record { len = grind arith; numbers = λ k d lt. absurd (omega arith) }; lines = refl }

-- one row more
pub starts_more : (r n : ℕ) (text ps left row rest : List ℕ) → StartsWithRows r n text ps left → IsRow n row → left ≡ line_text (row_words (r + 1) row) ++ rest → StartsWithRows (r + 1) n text (ps ++ row) rest
starts_more r n text ps left row rest so_far is e = record {
  row = record {
    len = length-append ps row ∙ grind (arith, so_far.row.len, is.len);
    numbers = All-append (λ x. x < 2 ^ 64) ps row so_far.row.numbers is.numbers;
  };
  lines = so_far.lines
      ∙ ap (λ (t : List ℕ). flat_map line_text (rows_of r n ps) ++ t) e
      ∙ sym (append_assoc (flat_map line_text (rows_of r n ps)) (line_text (row_words (r + 1) row)) rest)
      ∙ ap (λ (t : List ℕ). t ++ rest) (flat_map_more line_text [] (rows_of r n ps) (row_words (r + 1) row) ∙ ap (flat_map line_text) (sym (rows_of_push r n ps row so_far.row.len is.len)));
}

-- the numbers after a row's own
pub after_number : (seen numbers row : List ℕ) (x : ℕ) → seen ≡ numbers → numbers ≡ x ∷ row → take (length seen - 1) (drop 1 seen) ≡ row
after_number seen numbers row x e is = rw (e, is) (take_all (length (x ∷ row) - 1) row (omega arith))
