-- The line of one row: its number, and n potentials.
use Rattle.std.proofs.Common.{◌≡◌, ◌≢◌, ℕ, ◌+◌, ◌^◌, ◌<◌, ◌≤◌, List, [], ◌∷◌, ◌++◌, length, get_or, drop, map, refl, sym, ◌∙◌, arith}
use Rattle.std.specs.List.{join_with_byte}
use Rattle.std.specs.Fmt.{decimal}
use Rattle.std.proofs.lemmas.Fmt.{decimal_injective}
use Rattle.std.proofs.lemmas.List.Elements.{All-cons, All-head, All-tail}
use Rattle.lit_cert.specs.Spelling.{row_words}
use Rattle.lit_cert.specs.Reading.{AreNumbers, HasNumbers, IsRow, NoLine}
use Rattle.lit_cert.proofs.Lines.{Lacks, lacks_decimals, line_is}
use Rattle.lit_cert.proofs.Splits.{words_of_numbers}

-- numbers with the same texts are the same
same_decimals : (xs ys : List ℕ) → AreNumbers xs → AreNumbers ys → map decimal xs ≡ map decimal ys → xs ≡ ys
same_decimals [] [] small small' e = refl
same_decimals [] (y ∷ ys) small small' e = absurd cc
same_decimals (x ∷ xs) [] small small' e = absurd cc
same_decimals (x ∷ xs) (y ∷ ys) small small' e =
    let heads : decimal x ≡ decimal y = cc in
    let tails : map decimal xs ≡ map decimal ys = cc in
    let head : x ≡ y = decimal_injective x y (All-head (λ n. n < 2 ^ 64) x xs small) (All-head (λ n. n < 2 ^ 64) y ys small') heads in
    let tail : xs ≡ ys = same_decimals xs ys (All-tail (λ n. n < 2 ^ 64) x xs small) (All-tail (λ n. n < 2 ^ 64) y ys small') tails in
    cc

-- the numbers of a line can be read in one way only
pub same_numbers : (line xs ys : List ℕ) → 1 ≤ length xs → 1 ≤ length ys → AreNumbers xs → AreNumbers ys → line ≡ join_with_byte 32 (map decimal xs) → line ≡ join_with_byte 32 (map decimal ys) → xs ≡ ys
same_numbers line xs ys some some' small small' e e' =
    same_decimals xs ys small small' (sym (words_of_numbers line xs some small e) ∙ words_of_numbers line ys some' small' e')

-- a row's number and potentials are numbers
pub row_numbers : (n number : ℕ) (row : List ℕ) → number < 2 ^ 64 → IsRow n row → AreNumbers (number ∷ row)
row_numbers n number row small is = All-cons (λ x. x < 2 ^ 64) number row small is.numbers

-- no such row stands in front, if the first line is none
pub no_row : (text line rest : List ℕ) (n number : ℕ) → number < 2 ^ 64 → text ≡ line ++ 10 ∷ rest → Lacks 10 line → ((row : List ℕ) → IsRow n row → line ≢ join_with_byte 32 (map decimal (number ∷ row))) → NoLine (IsRow n) (row_words number) text
no_row text line rest n number small is lacks none row after row_is e =
    none row row_is (line_is text line rest (row_words number row) after is lacks (lacks_decimals 10 (number ∷ row) (omega arith) (row_numbers n number row small row_is)) e).0

-- numbers that begin with the row's own are a row
pub is_row : (numbers : List ℕ) (n number : ℕ) → length numbers ≡ n + 1 → get_or numbers 0 0 ≡ number → AreNumbers numbers → IsRow n (drop 1 numbers) × (numbers ≡ number ∷ drop 1 numbers)
is_row [] n number len first small = absurd (omega arith)
is_row (x ∷ xs) n number len first small = (record { len = omega arith; numbers = All-tail (λ y. y < 2 ^ 64) x xs small }, cc)

-- the numbers of a row's line are its number and its potentials
pub row_has_numbers : (line : List ℕ) (n number : ℕ) (row : List ℕ) → number < 2 ^ 64 → IsRow n row → line ≡ join_with_byte 32 (map decimal (number ∷ row)) → HasNumbers (n + 1) line (number ∷ row)
row_has_numbers line n number row small is e = record { some = omega arith; few = omega (arith, is.len); small = row_numbers n number row small is; line_is = e }
