-- Numbers as bytes: one number has one text, and a number that is read has the text that was read.
use Rattle.std.proofs.Common.{◌≡◌, ℕ, ◌^◌, ◌<◌, ◌≤◌, List, ◌++◌, length, get_or, take, drop, refl, sym, ap, ◌∙◌, inl, inr, arith}
use Rattle.std.specs.Int.{w16, w32, w64, from_be_bytes, to_be_bytes}
use Rattle.std.proofs.lemmas.Bool.{cases_lt}
use Rattle.std.proofs.lemmas.List.{take-append-drop, length-take, get_or-take, get_or_past}
use Rattle.std.proofs.lemmas.Nat.{be_bytes_2, be_bytes_4, be_bytes_8, from_be_bytes-to_be_bytes_2, from_be_bytes-to_be_bytes_4}
use Rattle.scan_wire.specs.Numbers.{u16_text, u32_text, u64_text}

-- each is a byte
abbrev pub AreBytes : List ℕ → Type 0
AreBytes bytes = (i : ℕ) → get_or bytes i 0 < 256

AreBytes-take : (n : ℕ) (bytes : List ℕ) → AreBytes bytes → AreBytes (take n bytes)
AreBytes-take n bytes are i =
    elim (cases_lt i n) [
      | inl lt ↦ rw (get_or-take n bytes i 0 lt) (are i)
      | inr le ↦ rw (get_or_past (take n bytes) i 0 (omega (arith, length-take n bytes))) (omega arith)
    ]

-- two bytes are the text of the number that they are
pub u16_first : (bytes prefix rest : List ℕ) (n : ℕ) → prefix ≡ take 2 bytes → rest ≡ drop 2 bytes → AreBytes bytes → 2 ≤ length bytes → n ≡ from_be_bytes w16 prefix → bytes ≡ u16_text n ++ rest
unfolding u16_text
u16_first bytes prefix rest n prefix_is rest_is are long is =
    let spelled : to_be_bytes w16 n ≡ take 2 bytes = be_bytes_2 (take 2 bytes) n (omega (arith, length-take 2 bytes)) (AreBytes-take 2 bytes are) (is ∙ ap (λ (x : List ℕ). from_be_bytes w16 x) prefix_is) in
    sym (take-append-drop 2 bytes) ∙ ap (λ (x : List ℕ). x ++ drop 2 bytes) (sym spelled) ∙ ap (λ (x : List ℕ). to_be_bytes w16 n ++ x) (sym rest_is)

-- four bytes are the text of the number that they are
pub u32_first : (bytes prefix rest : List ℕ) (n : ℕ) → prefix ≡ take 4 bytes → rest ≡ drop 4 bytes → AreBytes bytes → 4 ≤ length bytes → n ≡ from_be_bytes w32 prefix → bytes ≡ u32_text n ++ rest
unfolding u32_text
u32_first bytes prefix rest n prefix_is rest_is are long is =
    let spelled : to_be_bytes w32 n ≡ take 4 bytes = be_bytes_4 (take 4 bytes) n (omega (arith, length-take 4 bytes)) (AreBytes-take 4 bytes are) (is ∙ ap (λ (x : List ℕ). from_be_bytes w32 x) prefix_is) in
    sym (take-append-drop 4 bytes) ∙ ap (λ (x : List ℕ). x ++ drop 4 bytes) (sym spelled) ∙ ap (λ (x : List ℕ). to_be_bytes w32 n ++ x) (sym rest_is)

-- eight bytes are the text of the number that they are
pub u64_first : (bytes prefix rest : List ℕ) (n : ℕ) → prefix ≡ take 8 bytes → rest ≡ drop 8 bytes → AreBytes bytes → 8 ≤ length bytes → n ≡ from_be_bytes w64 prefix → bytes ≡ u64_text n ++ rest
unfolding u64_text
u64_first bytes prefix rest n prefix_is rest_is are long is =
    let spelled : to_be_bytes w64 n ≡ take 8 bytes = be_bytes_8 (take 8 bytes) n (omega (arith, length-take 8 bytes)) (AreBytes-take 8 bytes are) (is ∙ ap (λ (x : List ℕ). from_be_bytes w64 x) prefix_is) in
    sym (take-append-drop 8 bytes) ∙ ap (λ (x : List ℕ). x ++ drop 8 bytes) (sym spelled) ∙ ap (λ (x : List ℕ). to_be_bytes w64 n ++ x) (sym rest_is)

pub length-u16_text : (n : ℕ) → length (u16_text n) ≡ 2
unfolding u16_text
length-u16_text n = refl

pub length-u32_text : (n : ℕ) → length (u32_text n) ≡ 4
unfolding u32_text
length-u32_text n = refl

pub length-u64_text : (n : ℕ) → length (u64_text n) ≡ 8
unfolding u64_text
length-u64_text n = refl

-- what two texts are that begin with a number and are one
pub record SameFirst (n m : ℕ) (s t : List ℕ) : Type 0 where
  pub number : n ≡ m
  pub rest : s ≡ t

-- two texts that begin with a number of two bytes and are one have one number and one rest
pub u16_same : (n m : ℕ) (s t : List ℕ) → n < 2 ^ 16 → m < 2 ^ 16 → u16_text n ++ s ≡ u16_text m ++ t → SameFirst n m s t
unfolding u16_text
u16_same n m s t ln lm e = record {
  number = sym (from_be_bytes-to_be_bytes_2 n ln) ∙ ap (λ (x : List ℕ). from_be_bytes w16 (take 2 x)) e ∙ from_be_bytes-to_be_bytes_2 m lm;
  rest = ap (λ (x : List ℕ). drop 2 x) e;
}

-- two texts that begin with a number of four bytes and are one have one number and one rest
pub u32_same : (n m : ℕ) (s t : List ℕ) → n < 2 ^ 32 → m < 2 ^ 32 → u32_text n ++ s ≡ u32_text m ++ t → SameFirst n m s t
unfolding u32_text
u32_same n m s t ln lm e = record {
  number = sym (from_be_bytes-to_be_bytes_4 n ln) ∙ ap (λ (x : List ℕ). from_be_bytes w32 (take 4 x)) e ∙ from_be_bytes-to_be_bytes_4 m lm;
  rest = ap (λ (x : List ℕ). drop 4 x) e;
}
