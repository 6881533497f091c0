-- The number that the text of an argument spells, from what reads it.
use Rattle.std.proofs.Common.{◌≡◌, ℕ, List, Option, Some, None, Result, IfSome, MatchOption, refl, sym, subst}
use Rattle.std.specs.Str.Parse.{ExplainsUnsignedError, HasUnsignedDigitsIfOk, ParsesUnsigned}
use Rattle.std.specs.declared.num.ParseIntError.{ParseIntError}
use Rattle.clap.specs.Words.{ReadsOne, found_of, one_text}
use Rattle.clap.specs.declared.parser.matches.ArgMatches.{ArgMatches}
use Rattle.program_words.specs.Matches.{IsNumber}

-- the number in a text without a sign, of `bits` bits
abbrev Gives : ℕ → List ℕ → Result ℕ ParseIntError → Type 0
Gives bits text r = ParsesUnsigned bits 10 text r × ExplainsUnsignedError 10 text r × HasUnsignedDigitsIfOk text r

module _ (bits : ℕ) (m : ArgMatches) (id : List ℕ) where
  -- the same, where the text is written in another way
  of_text : (text : Option (List ℕ)) → one_text (found_of m) id ≡ text → (r : Option ℕ) → (text ≡ None → r ≡ None) → ((t : List ℕ) → text ≡ Some t → ReadsOne (Gives bits) t r) → IfSome r (IsNumber m id)
  of_text text is None none value = tt
  of_text None is (Some v) none value = let bad = none refl in (cc)
  of_text (Some t) is (Some v) none value = (t, is, (value t refl).0.1)

  -- the number read of an argument is the number that its text spells
  pub number_read : (r : Option ℕ) → (one_text (found_of m) id ≡ None → r ≡ None) → ((t : List ℕ) → one_text (found_of m) id ≡ Some t → ReadsOne (Gives bits) t r) → IfSome r (IsNumber m id)
  number_read r none value = of_text (one_text (found_of m) id) refl r none value

-- a fact on a number holds of the value made of it, if there is one
pub counted : {X : Type 0} (count : X → ℕ) (Q : Type 0) (P : ℕ → Type 0) (n : ℕ) (r : Option X) → MatchOption r Q (λ x. count x ≡ n) → P n → IfSome r (λ x. P (count x))
counted count Q P n None made holds = tt
counted count Q P n (Some x) made holds = subst P (sym made) holds
