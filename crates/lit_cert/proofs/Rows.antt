-- The rows of potentials, one after the other.
use Rattle.std.proofs.Common.{◌≡◌, ℕ, ◌+◌, ◌*◌, List, [], ◌∷◌, ◌++◌, take, drop, codes, ap, ◌∙◌, sym, subst, append_assoc, arith}
use Rattle.std.specs.List.{flat_map}
use Rattle.std.proofs.lemmas.List.{flat_map_more, append-nil}
use Rattle.std.proofs.lemmas.List.Concat.{flat_map-append}
use Rattle.std.proofs.lemmas.List.FromFn.{map-range_with_len_more}
use Rattle.lit_cert.specs.Certificates.{CertificateNumbers}
use Rattle.lit_cert.specs.Spelling.{literals_in, row_words, rows_of, head_lines, line_text, spelling_for}

-- row r + 1 of n potentials each
abbrev pub row_at : ℕ → List ℕ → ℕ → List (List ℕ)
row_at n hs r = row_words (r + 1) (take n (drop (r * n) hs))

-- one row more
pub rows_of_more : (r n : ℕ) (hs : List ℕ) → rows_of (r + 1) n hs ≡ rows_of r n hs ++ row_at n hs r ∷ []
unfolding rows_of
rows_of_more r n hs = map-range_with_len_more (row_at n hs) 0 r r (omega arith)

-- a loop's step that writes one more row
pub writes_row : (head before after : List ℕ) (r n : ℕ) (hs : List ℕ) → before ≡ head ++ flat_map line_text (rows_of r n hs) → after ≡ before ++ line_text (row_at n hs r) → after ≡ head ++ flat_map line_text (rows_of (r + 1) n hs)
writes_row head before after r n hs so_far one =
    one ∙ ap (λ (t : List ℕ). t ++ line_text (row_at n hs r)) so_far ∙ flat_map_more line_text head (rows_of r n hs) (row_at n hs r) ∙ ap (λ (ls : List (List (List ℕ))). head ++ flat_map line_text ls) (sym (rows_of_more r n hs))

-- the text of no row
pub rows_of_none : (n : ℕ) (hs head : List ℕ) → head ≡ head ++ flat_map line_text (rows_of 0 n hs)
unfolding rows_of
rows_of_none n hs head = sym (append-nil head)

-- the lines before the rows, the rows and the last line are the text
pub writes_end : (most n r : ℕ) (c : CertificateNumbers) (before after : List ℕ) → n ≡ literals_in most c → r ≡ most → before ≡ flat_map line_text (head_lines most n c.ends c.cost) ++ flat_map line_text (rows_of r n c.potentials) → after ≡ before ++ (codes "end" ++ 10 ∷ []) → after ≡ spelling_for most c
writes_end most n r c before after n-is r-is so_far one =
    let here = literals_in most c in
    let head = flat_map line_text (head_lines most here c.ends c.cost) in
    let rows = rows_of most here c.potentials in
    let by_n = subst (λ (k : ℕ). before ≡ flat_map line_text (head_lines most k c.ends c.cost) ++ flat_map line_text (rows_of r k c.potentials)) n-is so_far in
    let by_r : before ≡ head ++ flat_map line_text rows = subst (λ (k : ℕ). before ≡ head ++ flat_map line_text (rows_of k here c.potentials)) r-is by_n in
    let all : after ≡ head ++ flat_map line_text rows ++ (codes "end" ++ 10 ∷ []) = one ∙ ap (λ (t : List ℕ). t ++ (codes "end" ++ 10 ∷ [])) by_r in
    all ∙ append_assoc head (flat_map line_text rows) (codes "end" ++ 10 ∷ [])
    ∙ ap (λ (t : List ℕ). head ++ t) (sym (flat_map-append line_text rows ((codes "end" ∷ []) ∷ [])))
    ∙ sym (flat_map-append line_text (head_lines most here c.ends c.cost) (rows ++ (codes "end" ∷ []) ∷ []))
