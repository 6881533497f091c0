-- Halves, by the bits of a number.
use Rattle.std.proofs.Common.{◌≡◌, ℕ, ◌+◌, ◌-◌, ◌*◌, ◌^◌, ◌%◌, ◌<◌, max, ◌&&◌, ◌||◌, ◌==◌, not, Bool, true, false, cond, List, length, get_or, bit_or, refl, sym, ap, ◌∙◌, inl, inr, arith, w16}
use Rattle.std.specs.Int.{bit_at}
use Rattle.std.proofs.lemmas.Bool.{cases_eq, eq-eqb, ne_eqb}
use Rattle.std.proofs.lemmas.Nat.Bits.{bit_at_or, bit_at_ones, bit_at_set_same, bit_at_set_other, bit_at-zero}
use Rattle.lit_base.specs.declared.fold.Fold.{Fold}
use Rattle.nib_mask.specs.declared.half.Half.{Half}
use Rattle.nib_mask.specs.FilterSet.{capital, half_of, has_half, is_used, reaches, shares_half}
use Rattle.nib_mask.specs.Tables.{AreHalvesOf, allows}

-- the number with one bit
pub sets-one : (value : ℕ) → value < 16 → AreHalvesOf (1 * 2 ^ value % 65536) (λ other. value == other)
sets-one value small other less =
    let number = 1 * 2 ^ value % 65536 in
    elim (cases_eq other value) [
      | inl same ↦ omega (arith, ap (λ k. bit_at number k) same, bit_at_set_same w16 0 value small, bit_at_or 0 number value, bit_at-zero value) ∙ ap (λ b. cond b 1 0) (sym (eq-eqb value other (sym same)))
      | inr apart ↦ omega (arith, bit_at_set_other w16 0 value small other apart, bit_at_or 0 number other, bit_at-zero other) ∙ ap (λ b. cond b 1 0) (sym (ne_eqb value other (λ same. apart (sym same))))
    ]

-- a bit of either test
either : (x y : Bool) → max (cond x 1 0) (cond y 1 0) ≡ cond (x || y) 1 0
either true true = refl
either true false = refl
either false true = refl
either false false = refl

-- both numbers together have the bits of what passes one of the tests
pub sets-either : (a b : ℕ) (f g : ℕ → Bool) → AreHalvesOf a f → AreHalvesOf b g → AreHalvesOf (bit_or a b) (λ value. f value || g value)
sets-either a b f g of_a of_b value less =
    bit_at_or a b value ∙ (λ i. max (of_a value less i) (of_b value less i)) ∙ either (f value) (g value)

-- a number with the bits of one test has the bits of another test with the same answers
pub sets-same : (a : ℕ) (f g : ℕ → Bool) → ((value : ℕ) → f value ≡ g value) → AreHalvesOf a f → AreHalvesOf a g
sets-same a f g same of_f value less = of_f value less ∙ ap (λ b. cond b 1 0) (same value)

-- no bit where nothing passes
pub sets-none : (f : ℕ → Bool) → ((value : ℕ) → f value ≡ false) → AreHalvesOf 0 f
sets-none f none value less = bit_at-zero value ∙ ap (λ b. cond b 1 0) (sym (none value))

-- all bits where everything passes
pub sets-all : (f : ℕ → Bool) → ((value : ℕ) → f value ≡ true) → AreHalvesOf 65535 f
sets-all f all value less = bit_at_ones 16 value less ∙ ap (λ b. cond b 1 0) (sym (all value))

module _ (fold : Fold) (position : ℕ) (half : Half) where
  -- a literal that reaches the position has the half of its byte there and the half of the byte's capital
  pub has_half-long : (literal : List ℕ) (byte : ℕ) → reaches position literal ≡ true → byte ≡ get_or literal (length literal + position - 3) 0 → (value : ℕ) → ((half_of half byte == value) || (half_of half (capital fold byte) == value)) ≡ has_half fold position half value literal
  unfolding has_half
  has_half-long literal byte long is value =
      let has : ℕ → Bool = λ own. (half_of half own == value) || (half_of half (capital fold own) == value) in
      ap has is ∙ ap (λ b. b && has (get_or literal (length literal + position - 3) 0)) (sym long)

  -- a table keeps a run that uses the position at the halves that the run shares
  pub allows-used : (run : List (List ℕ)) → is_used position run ≡ true → (value : ℕ) → shares_half fold position half value run ≡ allows fold position half value run
  unfolding allows
  allows-used run used value = ap (λ u. not u || shares_half fold position half value run) (sym used)

  -- and a run that does not at all halves
  pub allows-unused : (run : List (List ℕ)) → is_used position run ≡ false → (value : ℕ) → allows fold position half value run ≡ true
  unfolding allows
  allows-unused run unused value = ap (λ u. not u || shares_half fold position half value run) unused
