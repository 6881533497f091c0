-- Fields of a plan file: what a reader took is the spelling of the value that it read, and a spelling is read again.
use Rattle.std.proofs.Common.{◌≡◌, ℕ, zero, suc, ◌+◌, ◌^◌, ◌<◌, ◌≤◌, Fits, Bool, true, false, cond, ltb, List, [], ◌∷◌, ◌++◌, length, get_or, take, drop, All, Result, Ok, Err, refl, sym, ap, subst, ◌∙◌, append_assoc, arith, ◌⊎◌, inl, inr}
use Rattle.std.specs.List.{AllByRecursion}
use Rattle.std.specs.Int.{Width, w8, w16, w32, w64, w128, byte_len, from_be_bytes, to_be_bytes}
use Rattle.std.proofs.lemmas.Bool.{cases_lt, ltb-false, lt-ltb, le-ltb}
use Rattle.std.proofs.lemmas.List.{take_at, drop_at, take-append-drop, length-append, length-take-le, get_or_past}
use Rattle.std.proofs.lemmas.List.Elements.{All-drop, All-from_get_or, All-same, All-take}
use Rattle.std.proofs.lemmas.Nat.{be_bytes_2, be_bytes_4, be_bytes_8, from_be_bytes-to_be_bytes_2, from_be_bytes-to_be_bytes_4, from_be_bytes-to_be_bytes_8}
use Rattle.std.proofs.lemmas.Result.{IfOk-at_ok}
use mir.Val.{bits}
use Rattle.plan_file.specs.declared.fault.Cause.{Cause}
use Rattle.plan_file.specs.declared.fault.Cause.TheVariants.{Short}
use Rattle.plan_file.specs.declared.fault.Wrong.{Wrong}
use Rattle.plan_file.specs.Reading.{◌>>=◌, wrong_at, byte_at, number_at, bytes_at, field, numbers_at}
use Rattle.plan_file.specs.Spelling.{numbers_text}

-- ---- steps of a reader

-- the value that a step read, from which the next step read y
pub record Step {A B : Type 0} (read : Result A Wrong) (next : A → Result B Wrong) (y : B) : Type 0 where
  pub value : A
  pub first : read ≡ Ok value
  pub second : next value ≡ Ok y

-- both of two steps read something, or the reader stopped
pub step : {A B : Type 0} (read : Result A Wrong) (next : A → Result B Wrong) (y : B) → (read >>= next) ≡ Ok y → Step read next y
step (Err wrong) next y is = absurd cc
step (Ok value) next y is = record { value = value; first = refl; second = is }

abbrev stopped : {A : Type 0} → Wrong → Result A Wrong
stopped w = Err w

one_wrong : {A : Type 0} {w e : Wrong} → stopped {A = A} w ≡ Err e → w ≡ e
one_wrong is = (cc)

-- one of two steps stopped: the first, or the second after the value that the first read
pub stop : {A B : Type 0} (read : Result A Wrong) (next : A → Result B Wrong) (e : Wrong) → (read >>= next) ≡ Err e → (read ≡ Err e) ⊎ ((value : A) × (read ≡ Ok value) × (next value ≡ Err e))
stop (Err wrong) next e is = inl (ap stopped (one_wrong is))
stop (Ok value) next e is = inr (value, refl, is)

-- a reader that stops where a test fails stopped, so the test failed
pub failed : {A : Type 0} (passes : Bool) (x : A) (wrong e : Wrong) → cond passes (Ok x) (Err wrong) ≡ Err e → (passes ≡ false) × (e ≡ wrong)
failed true x wrong e is = absurd cc
failed false x wrong e is = (refl, cc)

-- a tested field is not read: its number is not, or does not pass
pub field_stop : (bytes : List ℕ) (passes : ℕ → Bool) (cause : Cause) (read : Result (ℕ × List ℕ) Wrong) (e : Wrong) → field bytes passes cause read ≡ Err e
    → (read ≡ Err e) ⊎ ((n : ℕ × List ℕ) × (read ≡ Ok n) × (passes n.0 ≡ false) × (e ≡ wrong_at cause bytes))
field_stop bytes passes cause read e is =
    elim (stop read (λ m. cond (passes m.0) (Ok m) (Err (wrong_at cause bytes))) e is) [
      | inl r ↦ inl r
      | inr p ↦ let f = failed (passes p.0.0) p.0 (wrong_at cause bytes) e p.2 in inr (p.0, p.1, f.0, f.1)
    ]

-- a reader that stops where a test holds went on, so the test failed
pub went_on : {A : Type 0} (stops : Bool) (wrong : Wrong) (next : Result A Wrong) (y : A) → cond stops (Err wrong) next ≡ Ok y → (stops ≡ false) × (next ≡ Ok y)
went_on false wrong next y is = (refl, is)
went_on true wrong next y is = absurd cc

-- a reader that goes on where a test holds went on, so the test held
pub passed : {A : Type 0} (passes : Bool) (next : Result A Wrong) (wrong : Wrong) (y : A) → cond passes next (Err wrong) ≡ Ok y → (passes ≡ true) × (next ≡ Ok y)
passed false next wrong y is = absurd cc
passed true next wrong y is = (refl, is)

-- a tested field was read, so its number was read and passes
pub field_read : (bytes : List ℕ) (passes : ℕ → Bool) (cause : Cause) (read : Result (ℕ × List ℕ) Wrong) (n : ℕ × List ℕ) → field bytes passes cause read ≡ Ok n → (read ≡ Ok n) × (passes n.0 ≡ true)
field_read bytes passes cause read n is =
    let s = step read (λ m. cond (passes m.0) (Ok m) (Err (wrong_at cause bytes))) n is in
    let p = passed (passes s.value.0) (Ok s.value) (wrong_at cause bytes) n s.second in
    (s.first ∙ p.1, IfOk-at_ok (λ m. passes m.0 ≡ true) p.1 p.0)

-- a number that was read and passes is a tested field
pub field_again : (bytes : List ℕ) (passes : ℕ → Bool) (cause : Cause) (read : Result (ℕ × List ℕ) Wrong) (n : ℕ × List ℕ) → read ≡ Ok n → passes n.0 ≡ true → field bytes passes cause read ≡ Ok n
field_again bytes passes cause read n is passes_it = rw (is, passes_it) refl

-- ---- the bytes of a field

-- of these bytes a reader took the text of a field, and left the rest
abbrev pub Took : List ℕ → List ℕ → List ℕ → Type 0
Took bytes text rest = bytes ≡ text ++ rest

-- a field and the one after it are taken as one
pub took_both : (first second rest : List ℕ) {bytes middle : List ℕ} → Took bytes first middle → Took middle second rest → Took bytes (first ++ second) rest
took_both first second rest one two = one ∙ ap (λ (t : List ℕ). first ++ t) two ∙ sym (append_assoc first second rest)

-- a file is made of bytes
abbrev pub AreBytes : List ℕ → Type 0
AreBytes bytes = All (λ b. b < 256) bytes

-- a slice of `u8` is made of bytes
pub slice_bytes : (bytes : List ℕ) → ((i : ℕ) → Fits w8 (get_or bytes i 0)) → AreBytes bytes
slice_bytes bytes fit = All-from_get_or (λ b. b < 256) bytes 0 (λ i inside. omega (arith, fit i))

-- the zero that is read past the end is a byte as well
byte_below : (bytes : List ℕ) → AreBytes bytes → (i : ℕ) → get_or bytes i 0 < 256
byte_below bytes are i =
    elim (cases_lt i (length bytes)) [
      | inl inside ↦ are i 0 inside
      | inr past ↦ omega (arith, get_or_past bytes i 0 past)
    ]

-- a field that was taken of bytes is made of bytes
field_bytes : (text rest : List ℕ) {bytes : List ℕ} → Took bytes text rest → AreBytes bytes → AreBytes text
field_bytes text rest {bytes} took are =
    let prefix : take (length text) bytes ≡ text = ap (take (length text)) took ∙ take_at text rest (length text) refl in
    All-same (λ b. b < 256) text (take (length text) bytes) (sym prefix) (All-take (λ b. b < 256) (length text) bytes are)

-- what is left of bytes is made of bytes
pub rest_bytes : (text rest : List ℕ) {bytes : List ℕ} → Took bytes text rest → AreBytes bytes → AreBytes rest
rest_bytes text rest {bytes} took are =
    let back : drop (length text) bytes ≡ rest = ap (drop (length text)) took ∙ drop_at text rest (length text) refl in
    All-same (λ b. b < 256) rest (drop (length text) bytes) (sym back) (All-drop (λ b. b < 256) (length text) bytes are)

-- ---- fields of a fixed size

-- the field of n bytes at the start, as the value of its bytes
abbrev sized : {A : Type 0} → ℕ → (List ℕ → A) → List ℕ → Result (A × List ℕ) Wrong
sized n value bytes = cond (ltb (length bytes) n) (Err (wrong_at Short bytes)) (Ok (value (take n bytes), drop n bytes))

-- the bytes of a sized field that was read
record Sized {A : Type 0} (n : ℕ) (value : List ℕ → A) (bytes : List ℕ) (x : A × List ℕ) : Type 0 where
  text : List ℕ
  len : length text ≡ n
  took : Took bytes text x.1
  value_is : value text ≡ x.0

-- a sized field was read, so its bytes are there
sized_read : {A : Type 0} (n : ℕ) (value : List ℕ → A) (bytes : List ℕ) (x : A × List ℕ) → sized n value bytes ≡ Ok x → Sized n value bytes x
sized_read n value bytes x is =
    let whole = went_on (ltb (length bytes) n) (wrong_at Short bytes) (Ok (value (take n bytes), drop n bytes)) x is in
    IfOk-at_ok (Sized n value bytes) whole.1 (record {
      text = take n bytes;
      len = length-take-le n bytes (ltb-false _ _ whole.0);
      took = sym (take-append-drop n bytes);
      value_is = refl;
    })

-- where the bytes of a sized field are there, it is read
sized_again : {A : Type 0} (n : ℕ) (value : List ℕ → A) (text rest : List ℕ) → length text ≡ n → sized n value (text ++ rest) ≡ Ok (value text, rest)
sized_again n value text rest len =
    let enough : n ≤ length (text ++ rest) = omega (arith, len, length-append text rest) in
    rw (le-ltb _ _ enough, take_at text rest n len, drop_at text rest n len) refl

-- a sized field is not read, so it is not whole
sized_stop : {A : Type 0} (n : ℕ) (value : List ℕ → A) (bytes : List ℕ) (e : Wrong) → sized n value bytes ≡ Err e → (length bytes < n) × (e ≡ wrong_at Short bytes)
sized_stop {A} n value bytes e is =
    elim (cases_lt (length bytes) n) [
      | inl less ↦ (less, short (lt-ltb _ _ less))
      | inr enough ↦ absurd (whole (le-ltb _ _ enough))
    ]
  where
    read : Result (A × List ℕ) Wrong
    read = Ok (value (take n bytes), drop n bytes)

    short : ltb (length bytes) n ≡ true → e ≡ wrong_at Short bytes
    short t = let same : cond true (Err (wrong_at Short bytes)) read ≡ Err e = subst (λ (b : Bool). cond b (Err (wrong_at Short bytes)) read ≡ Err e) t is in cc

    whole : ltb (length bytes) n ≡ false → ⊥
    whole f = let same : cond false (Err (wrong_at Short bytes)) read ≡ Err e = subst (λ (b : Bool). cond b (Err (wrong_at Short bytes)) read ≡ Err e) f is in absurd cc

-- a count of bytes is not read, so there are fewer
pub bytes_stop : (n : ℕ) (bytes : List ℕ) (e : Wrong) → bytes_at n bytes ≡ Err e → (length bytes < n) × (e ≡ wrong_at Short bytes)
bytes_stop n bytes e is = sized_stop n (λ text. text) bytes e is

-- a number is not read, so it is not whole
pub number_stop : (w : Width) (bytes : List ℕ) (e : Wrong) → number_at w bytes ≡ Err e → (length bytes < byte_len w) × (e ≡ wrong_at Short bytes)
number_stop w bytes e is = sized_stop (byte_len w) (from_be_bytes w) bytes e is

-- a byte is not read, so there is none
pub byte_stop : (bytes : List ℕ) (e : Wrong) → byte_at bytes ≡ Err e → (length bytes < 1) × (e ≡ wrong_at Short bytes)
byte_stop [] e is = (omega arith, cc)
byte_stop (b ∷ rest) e is = absurd cc

-- a byte was read, so it stands at the start
pub byte_read : (bytes : List ℕ) (x : ℕ × List ℕ) → byte_at bytes ≡ Ok x → Took bytes (x.0 ∷ []) x.1
byte_read [] x is = absurd cc
byte_read (b ∷ rest) x is = IfOk-at_ok (λ y. Took (b ∷ rest) (y.0 ∷ []) y.1) is refl

-- a count of bytes was read, so they stand at the start
pub bytes_read : (n : ℕ) (bytes : List ℕ) (x : List ℕ × List ℕ) → bytes_at n bytes ≡ Ok x → Took bytes x.0 x.1 × (length x.0 ≡ n)
bytes_read n bytes x is =
    let s = sized_read n (λ text. text) bytes x is in
    subst (λ (text : List ℕ). Took bytes text x.1 × (length text ≡ n)) s.value_is (s.took, s.len)

-- bytes at the start are read
pub bytes_again : (text rest : List ℕ) → bytes_at (length text) (text ++ rest) ≡ Ok (text, rest)
bytes_again text rest = sized_again (length text) (λ t. t) text rest refl

-- ---- numbers

-- the widths of the numbers in a plan file
abbrev pub IsFieldWidth : Width → Type 0
IsFieldWidth w8 = ⊥
IsFieldWidth w16 = Unit {0}
IsFieldWidth w32 = Unit {0}
IsFieldWidth w64 = Unit {0}
IsFieldWidth w128 = ⊥

-- as many bytes as a width has are the spelling of a number of the width
spells : (w : Width) → IsFieldWidth w → (text : List ℕ) → length text ≡ byte_len w → AreBytes text → (to_be_bytes w (from_be_bytes w text) ≡ text) × (from_be_bytes w text < 2 ^ bits w)
spells w8 is text len are = absurd is
spells w16 is text len are = (be_bytes_2 text _ len (byte_below text are) refl, omega (arith, byte_below text are 0, byte_below text are 1))
spells w32 is text len are =
    let b = byte_below text are in
    (be_bytes_4 text _ len b refl, omega (arith, b 0, b 1, b 2, b 3))
spells w64 is text len are =
    let b = byte_below text are in
    (be_bytes_8 text _ len b refl, omega (arith, b 0, b 1, b 2, b 3, b 4, b 5, b 6, b 7))
spells w128 is text len are = absurd is

-- the spelling of a number of a width has as many bytes, and is the number's
spelled : (w : Width) → IsFieldWidth w → (n : ℕ) → n < 2 ^ bits w → (length (to_be_bytes w n) ≡ byte_len w) × (from_be_bytes w (to_be_bytes w n) ≡ n)
spelled w8 is n small = absurd is
spelled w16 is n small = (refl, from_be_bytes-to_be_bytes_2 n small)
spelled w32 is n small = (refl, from_be_bytes-to_be_bytes_4 n small)
spelled w64 is n small = (refl, from_be_bytes-to_be_bytes_8 n small)
spelled w128 is n small = absurd is

-- the spelling of a number has as many bytes as the width
pub number_len : (w : Width) → IsFieldWidth w → (n : ℕ) → length (to_be_bytes w n) ≡ byte_len w
number_len w8 is n = absurd is
number_len w16 is n = refl
number_len w32 is n = refl
number_len w64 is n = refl
number_len w128 is n = absurd is

-- a spelling is one number's
pub same_number : (w : Width) → IsFieldWidth w → (n m : ℕ) → n < 2 ^ bits w → m < 2 ^ bits w → to_be_bytes w n ≡ to_be_bytes w m → n ≡ m
same_number w width n m sn sm e = sym (spelled w width n sn).1 ∙ ap (from_be_bytes w) e ∙ (spelled w width m sm).1

-- a number was read, so its spelling stands at the start
pub number_read : (w : Width) → IsFieldWidth w → (bytes : List ℕ) (x : ℕ × List ℕ) → AreBytes bytes → number_at w bytes ≡ Ok x → Took bytes (to_be_bytes w x.0) x.1 × (x.0 < 2 ^ bits w)
number_read w width bytes x are is =
    let s = sized_read (byte_len w) (from_be_bytes w) bytes x is in
    let number = spells w width s.text s.len (field_bytes s.text x.1 s.took are) in
    subst (λ (n : ℕ). Took bytes (to_be_bytes w n) x.1 × (n < 2 ^ bits w)) s.value_is (s.took ∙ ap (λ (t : List ℕ). t ++ x.1) (sym number.0), number.1)

-- a number was read, so it left that many bytes less
pub number_rest : (w : Width) (bytes : List ℕ) (x : ℕ × List ℕ) → number_at w bytes ≡ Ok x → length bytes ≡ byte_len w + length x.1
number_rest w bytes x is =
    let s = sized_read (byte_len w) (from_be_bytes w) bytes x is in
    omega (arith, ap length s.took, length-append s.text x.1, s.len)

-- the spelling of a number is read
pub number_again : (w : Width) → IsFieldWidth w → (n : ℕ) (rest : List ℕ) → n < 2 ^ bits w → number_at w (to_be_bytes w n ++ rest) ≡ Ok (n, rest)
number_again w width n rest small =
    let number = spelled w width n small in
    sized_again (byte_len w) (from_be_bytes w) (to_be_bytes w n) rest number.0 ∙ ap (λ (m : ℕ). Ok (m, rest)) number.1

-- a count of numbers was read, so their spellings stand at the start
pub numbers_read : (w : Width) → IsFieldWidth w → (n : ℕ) (bytes : List ℕ) (x : List ℕ × List ℕ) → AreBytes bytes → numbers_at w n bytes ≡ Ok x
    → Took bytes (numbers_text w x.0) x.1 × (length x.0 ≡ n) × AllByRecursion (λ m. m < 2 ^ bits w) x.0
unfolding numbers_at
numbers_read w width zero bytes x are is = IfOk-at_ok (λ y. Took bytes (numbers_text w y.0) y.1 × (length y.0 ≡ 0) × AllByRecursion (λ m. m < 2 ^ bits w) y.0) is (refl, refl, tt)
numbers_read w width (suc n) bytes x are is =
    let a = step (number_at w bytes) (λ first. numbers_at w n first.1 >>= λ others. Ok (first.0 ∷ others.0, others.1)) x is in
    let b = step (numbers_at w n a.value.1) (λ others. Ok (a.value.0 ∷ others.0, others.1)) x a.second in
    let first = number_read w width bytes a.value are a.first in
    let others = numbers_read w width n a.value.1 b.value (rest_bytes (to_be_bytes w a.value.0) a.value.1 first.0 are) b.first in
    IfOk-at_ok (λ y. Took bytes (numbers_text w y.0) y.1 × (length y.0 ≡ suc n) × AllByRecursion (λ m. m < 2 ^ bits w) y.0) {r = Ok (a.value.0 ∷ b.value.0, b.value.1)} b.second
    (took_both (to_be_bytes w a.value.0) (numbers_text w b.value.0) b.value.1 first.0 others.0, omega (arith, others.1), (first.1, others.2))

-- the spellings of numbers are read
pub numbers_again : (w : Width) → IsFieldWidth w → (ns rest : List ℕ) → AllByRecursion (λ m. m < 2 ^ bits w) ns → numbers_at w (length ns) (numbers_text w ns ++ rest) ≡ Ok (ns, rest)
unfolding numbers_at
numbers_again w width [] rest small = refl
numbers_again w width (n ∷ ns) rest small =
    let after = numbers_text w ns ++ rest in
    ap (numbers_at w (suc (length ns))) (append_assoc (to_be_bytes w n) (numbers_text w ns) rest) ∙ rw (number_again w width n after small.0, numbers_again w width ns rest small.1) refl

-- numbers of which the first are read, and the next one is not whole
pub record NumbersStop (w : Width) (n : ℕ) (bytes : List ℕ) (e : Wrong) : Type 0 where
  pub numbers : List ℕ
  pub rest : List ℕ
  pub fewer : length numbers < n
  pub small : AllByRecursion (λ m. m < 2 ^ bits w) numbers
  pub took : Took bytes (numbers_text w numbers) rest
  pub short : length rest < byte_len w
  pub wrong : e ≡ wrong_at Short rest

-- what reads does not stop
pub none_stopped : {A : Type 0} {x : A} {e : Wrong} → Ok x ≡ stopped e → ⊥
none_stopped same = absurd cc

-- a number is read before those of which one is not whole
one_more : (w : Width) → IsFieldWidth w → (n : ℕ) (bytes : List ℕ) (e : Wrong) (first : ℕ × List ℕ) → Took bytes (to_be_bytes w first.0) first.1 → first.0 < 2 ^ bits w → NumbersStop w n first.1 e → NumbersStop w (suc n) bytes e
one_more w width n bytes e first took small s = record {
  numbers = first.0 ∷ s.numbers;
  rest = s.rest;
  fewer = omega (arith, s.fewer);
  small = (small, s.small);
  took = took_both (to_be_bytes w first.0) (numbers_text w s.numbers) s.rest took s.took;
  short = s.short;
  wrong = s.wrong;
}

-- numbers are not read, so one of them is not whole
pub numbers_stop : (w : Width) → IsFieldWidth w → (n : ℕ) (bytes : List ℕ) (e : Wrong) → AreBytes bytes → numbers_at w n bytes ≡ Err e → NumbersStop w n bytes e
unfolding numbers_at
numbers_stop w width zero bytes e are is = absurd cc
numbers_stop w width (suc n) bytes e are is =
    elim (stop (number_at w bytes) (λ first. numbers_at w n first.1 >>= λ others. Ok (first.0 ∷ others.0, others.1)) e is) [
      | inl f ↦ let s = number_stop w bytes e f in record { numbers = []; rest = bytes; fewer = omega arith; small = tt; took = refl; short = s.0; wrong = s.1 }
      | inr p ↦
          let number = number_read w width bytes p.0 are p.1 in
          elim (stop (numbers_at w n p.0.1) (λ others. Ok (p.0.0 ∷ others.0, others.1)) e p.2) [
            | inl f ↦ one_more w width n bytes e p.0 number.0 number.1 (numbers_stop w width n p.0.1 e (rest_bytes (to_be_bytes w p.0.0) p.0.1 number.0 are) f)
            | inr q ↦ absurd (none_stopped q.2)
          ]
    ]
