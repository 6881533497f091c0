-- The lines of a certificate have no newline within them, so a text has them in one way.
use Rattle.std.proofs.Common.{◌≡◌, ℕ, ◌+◌, ◌*◌, ◌^◌, ◌<◌, ◌≤◌, List, [], ◌∷◌, ◌++◌, length, get_or, take, drop, map, codes, All, refl, sym, ap, subst, ◌∙◌, append_assoc, zero-add, inl, inr, arith}
use Rattle.std.proofs.lemmas.Bool.{cases_eq, eq-eqb, ne_eqb}
use Rattle.std.specs.List.{flat_map, join_with_byte, range_with_len}
use Rattle.std.proofs.lemmas.List.Elements.{All-cons, All-head, All-tail, All-append, All-map, All-take, All-drop, All-from_get_or, All-from_recursion}
use Rattle.std.proofs.lemmas.List.FromFn.{length-range_with_len, get_or-range_with_len}
use Rattle.lit_base.specs.Profiles.{buckets}
use Rattle.lit_base.specs.declared.profile.Profile.{Profile}
use Rattle.lit_base.specs.declared.profile.Profile.TheVariants.{Eight, Sixteen}
use Rattle.lit_cert.specs.Certificates.{CertificateNumbers}
use Rattle.lit_cert.specs.Spelling.{literals_in, IsCount, HasTextFor, row_words, rows_of, head_lines, lines_of, line_text, version_of}
use Rattle.lit_cert.specs.Reading.{AreNumbers}
use Rattle.lit_cert.proofs.Lines.{Lacks, lacks_join, lacks_by_test, lacks_decimals, plain_number, plain_ends, same_cut}

-- a number of rows that has a meaning
pub record IsMost (most : ℕ) : Type 0 where
  pub some : 1 ≤ most
  pub few : most < 2 ^ 16

-- words without a newline
abbrev pub IsPlain : List (List ℕ) → Type 0
IsPlain words = All (Lacks 10) words

-- a row's line is plain
plain_row : (number : ℕ) (row : List ℕ) → number < 2 ^ 64 → AreNumbers row → IsPlain (row_words number row)
plain_row number row small numbers = lacks_decimals 10 (number ∷ row) (omega arith) (All-cons (λ x. x < 2 ^ 64) number row small numbers)

-- all rows' lines are
plain_rows : (most count n : ℕ) (hs : List ℕ) → IsMost most → count ≤ most → AreNumbers hs → All IsPlain (rows_of count n hs)
unfolding rows_of
plain_rows most count n hs is few numbers =
    All-map IsPlain (λ r. row_words (r + 1) (take n (drop (r * n) hs))) (range_with_len 0 count)
    (All-from_get_or (λ r. IsPlain (row_words (r + 1) (take n (drop (r * n) hs)))) (range_with_len 0 count) 0 (λ i lt.
    let within : i < count = omega (arith, length-range_with_len 0 count) in
    let at : get_or (range_with_len 0 count) i 0 ≡ i = get_or-range_with_len 0 count i 0 within ∙ zero-add i in
    subst (λ (r : ℕ). IsPlain (row_words (r + 1) (take n (drop (r * n) hs)))) (sym at) (plain_row (i + 1) (take n (drop (i * n) hs)) (omega (arith, is.few)) (All-take (λ x. x < 2 ^ 64) n (drop (i * n) hs) (All-drop (λ x. x < 2 ^ 64) (i * n) hs numbers)))))

-- a version is a small number
pub version-lt : (most : ℕ) → version_of most < 2 ^ 64
version-lt most = elim (cases_eq most 8) [
  | inl same ↦ rw (eq-eqb most 8 same) (omega arith)
  | inr other ↦ rw (ne_eqb most 8 other) (omega arith)
]

-- the lines before the rows are
plain_head : (most n cost : ℕ) (ends : List ℕ) → IsCount n → All (λ e. e < 2 ^ 16) ends → cost < 2 ^ 64 → All IsPlain (head_lines most n ends cost)
plain_head most n cost ends count small_ends small =
    All-from_recursion IsPlain (head_lines most n ends cost) (
      plain_number (codes "litcert") (version_of most) (lacks_by_test 10 (codes "litcert") refl) (version-lt most),
      (
        plain_number (codes "literals") n (lacks_by_test 10 (codes "literals") refl) (omega (arith, count.few)),
        (
          plain_ends ends small_ends,
          (plain_number (codes "cost") cost (lacks_by_test 10 (codes "cost") refl) small, tt),
        ),
      ),
    )

-- all lines of a certificate are
pub plain_lines : (most : ℕ) (c : CertificateNumbers) → IsMost most → HasTextFor most c → All IsPlain (lines_of most c)
plain_lines most c is has =
    let n = literals_in most c in
    All-append IsPlain (head_lines most n c.ends c.cost) (rows_of most n c.potentials ++ (codes "end" ∷ []) ∷ [])
    (plain_head most n c.cost c.ends has.literals has.ends.small has.small_cost)
    (All-append IsPlain (rows_of most n c.potentials) ((codes "end" ∷ []) ∷ []) (plain_rows most most n c.potentials is (omega arith) has.small_potentials)
    (All-from_recursion IsPlain ((codes "end" ∷ []) ∷ []) (All-from_recursion (Lacks 10) (codes "end" ∷ []) (lacks_by_test 10 (codes "end") refl, tt), tt)))

-- the first plain lines of a text, of a given number, can be cut in one way only
pub same_lines : (ls ms : List (List (List ℕ))) (x y : List ℕ) → length ls ≡ length ms → All IsPlain ls → All IsPlain ms → flat_map line_text ls ++ x ≡ flat_map line_text ms ++ y → (map line_text ls ≡ map line_text ms) × (x ≡ y)
same_lines [] [] x y len p q e = (refl, e)
same_lines [] (m ∷ ms) x y len p q e = absurd (omega arith)
same_lines (l ∷ ls) [] x y len p q e = absurd (omega arith)
same_lines (l ∷ ls) (m ∷ ms) x y len p q e =
    let plain : Lacks 10 (join_with_byte 32 l) = lacks_join 10 32 l (λ k. absurd (omega arith)) (All-head IsPlain l ls p) in
    let plain' : Lacks 10 (join_with_byte 32 m) = lacks_join 10 32 m (λ k. absurd (omega arith)) (All-head IsPlain m ms q) in
    let cut = same_cut 10 (join_with_byte 32 l) (flat_map line_text ls ++ x) (join_with_byte 32 m) (flat_map line_text ms ++ y) plain plain' (sym (cut_off l ls x) ∙ e ∙ cut_off m ms y) in
    let more = same_lines ls ms x y (omega arith) (All-tail IsPlain l ls p) (All-tail IsPlain m ms q) cut.1 in
    (ap (λ (t : List ℕ). (t ++ 10 ∷ []) ∷ map line_text ls) cut.0 ∙ ap (λ (ts : List (List ℕ)). line_text m ∷ ts) more.0, more.1)
  where
    cut_off : (l : List (List ℕ)) (ls : List (List (List ℕ))) (x : List ℕ) → flat_map line_text (l ∷ ls) ++ x ≡ join_with_byte 32 l ++ 10 ∷ (flat_map line_text ls ++ x)
    cut_off l ls x = simp append_assoc

-- as many rows as a profile has buckets are
pub is_most : (profile : Profile) → IsMost (buckets profile)
is_most Eight = record { some = omega arith; few = omega arith }
is_most Sixteen = record { some = omega arith; few = omega arith }
