-- Decimal numbers: what their text is like, and what parsing makes of a text.
use Rattle.std.proofs.Common.{◌≡◌, ◌≢◌, ℕ, zero, suc, ◌^◌, ◌<◌, List, [], ◌∷◌, length, get_or, Result, Ok, Err, Option, Some, None, refl, sym, ap, ◌∙◌, arith}
use Rattle.std.specs.Result.{MatchResult, result_ok}
use Rattle.std.specs.Str.{IsUtf8}
use Rattle.std.specs.Str.Parse.{ParsesUnsigned, AllDigits, digits_value}
use Rattle.std.specs.Fmt.{decimal}
use Rattle.std.specs.Int.{IsInRange}
use Rattle.std.specs.Prelude.{slice_get, IfSome, IfNone, unwrap_or}
use Rattle.std.specs.Borrow.{Bor}
use Rattle.std.proofs.lemmas.Str.{IsUtf8-from_ascii}
use Rattle.std.proofs.lemmas.Str.Parse.{IsNumeralModel, numerals_by_value, tells_digits, digit_at, parse_plain, parse_gives}
use Rattle.std.proofs.lemmas.Fmt.{decimal_digit, decimal_nonempty, first_decimal, digits_decimal, digits_value-decimal, decimal-digits_value, IsAscii-decimal}

-- std's own words for a text of digits and its value
own : IsNumeralModel (AllDigits 10) (digits_value 10)
own = numerals_by_value (AllDigits 10) tells_digits

-- the number of 64 bits is written so
abbrev pub IsNumber : List ℕ → ℕ → Type 0
IsNumber word n = (n < 2 ^ 64) × (word ≡ decimal n)

-- no number of 64 bits is written so
abbrev pub IsNoNumber : List ℕ → Type 0
IsNoNumber word = (n : ℕ) → n < 2 ^ 64 → word ≡ decimal n → ⊥

-- each byte of a number is a digit
pub decimal_digits : (n : ℕ) → n < 2 ^ 64 → (i : ℕ) → i < length (decimal n) → IsInRange 48 57 (get_or (decimal n) i 0)
decimal_digits n small i lt = digit_at (decimal n) i (digits_decimal own n small) lt

-- a number begins with a digit
pub first_is_digit : (word : List ℕ) (n : ℕ) → n < 2 ^ 64 → word ≡ decimal n → IsInRange 48 57 (get_or word 0 0)
first_is_digit word n small e = rw e (decimal_digits n small 0 (decimal_nonempty n small))

-- a number that begins with a zero is zero
pub zero_alone : (word : List ℕ) (n : ℕ) → n < 2 ^ 64 → word ≡ decimal n → get_or word 0 0 ≡ 48 → length word ≡ 1
zero_alone word zero small e z = ap length (e ∙ decimal_digit 0 (omega arith))
zero_alone word (suc n) small e z = absurd (omega (arith, first_decimal (suc n) (omega arith) small, ap (λ (w : List ℕ). get_or w 0 0) e))

-- a number is text
pub number_is_text : (word : List ℕ) (n : ℕ) → n < 2 ^ 64 → word ≡ decimal n → IsUtf8 word
number_is_text word n small e = rw e (IsUtf8-from_ascii (decimal n) (IsAscii-decimal n small))

abbrev failed : {E : Type 0} → E → Result ℕ E
failed e = Err e

abbrev done : {E : Type 0} → ℕ → Result ℕ E
done x = Ok x

-- what parsing a text without sign and leading zero answers
pub parse_reads : {E : Type 0} (word : List ℕ) (r : Result ℕ E) → ParsesUnsigned 64 10 word r → get_or word 0 0 ≢ 43 → get_or word 0 0 ≢ 48 → MatchResult r (IsNumber word) (λ _. IsNoNumber word)
parse_reads {E} word (Ok x) h plus zero_first =
    let p = parse_plain own 64 word (done {E = E} x) h plus in
    let canonical = decimal-digits_value own word p.0.0 p.0.1 (λ z. absurd (zero_first z)) p.0.2 in
    (rw p.1 p.0.2, sym canonical ∙ ap decimal (sym p.1))
parse_reads {E} word (Err e) h plus zero_first =
    λ n small is.
    let value : digits_value 10 word ≡ n = rw is (digits_value-decimal own n small) in
    let got = parse_gives own 64 word (failed e) h (rw is (digits_decimal own n small)) (rw is (decimal_nonempty n small)) (rw value small) in
    absurd cc

-- the first byte of a word, as `first` answers it
pub first_byte : (word : List ℕ) (x : ℕ) → Some x ≡ slice_get word 0 → get_or word 0 0 ≡ x
first_byte [] x e = absurd cc
first_byte (b ∷ word) x e = cc

-- no byte is first in an empty word alone
pub no_first_byte : (word : List ℕ) → None ≡ slice_get word 0 → word ≡ []
no_first_byte [] e = refl
no_first_byte (b ∷ word) e = absurd cc

-- one byte
pub one_byte : (word : List ℕ) (x : ℕ) → get_or word 0 0 ≡ x → length word ≡ 1 → word ≡ x ∷ []
one_byte [] x e one = absurd (omega arith)
one_byte (b ∷ []) x e one = cc
one_byte (b ∷ c ∷ word) x e one = absurd (omega arith)

-- a number that an option answers
pub found_by : {E : Type 0} (o : Option ℕ) (r : Result ℕ E) (word : List ℕ) → o ≡ result_ok r → MatchResult r (IsNumber word) (λ _. IsNoNumber word) → IfSome o (IsNumber word) × IfNone o (IsNoNumber word)
found_by o (Ok x) word e h = rw e (h, tt)
found_by o (Err x) word e h = rw e (tt, h)

-- the text that bytes are
pub text_from_bytes : {E : Type 0} (B : E → Type 0) (r : Result (Bor (List ℕ)) E) (x : Bor (List ℕ)) (word : List ℕ) → Some x ≡ result_ok r → MatchResult r (λ s. (s.now ≡ word) × IsUtf8 word) B → x.now ≡ word
text_from_bytes B (Ok y) x word e h = ap (λ (o : Option (Bor (List ℕ))). (unwrap_or o y).now) e ∙ h.0
text_from_bytes B (Err d) x word e h = absurd cc

-- bytes that are no text
pub not_text_from_bytes : {E : Type 0} (B : E → Type 0) (r : Result (Bor (List ℕ)) E) (word : List ℕ) → None ≡ result_ok r → MatchResult r (λ s. (s.now ≡ word) × IsUtf8 word) (λ e. (¬ (IsUtf8 word)) × B e) → ¬ (IsUtf8 word)
not_text_from_bytes B (Ok y) word e h = absurd cc
not_text_from_bytes B (Err d) word e h = h.0
