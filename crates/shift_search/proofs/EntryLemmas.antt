-- Which bits the entries lack: those that they lacked before, and those of one more literal, position or entry.
use Rattle.std.proofs.Common.{◌≡◌, ◌↔◌, ℕ, ◌+◌, ◌*◌, ◌/◌, ◌<◌, ◌≤◌, ◌⊎◌, List, length, set, slice_index, inl, inr, sym, ap, ◌∙◌, subst, arith, get_or-set_other, get_or-set_same}
use Rattle.std.specs.Int.{bit_at}
use Rattle.std.proofs.lemmas.Bool.{cases_eq, cases_lt}
use Rattle.lit_base.specs.Literals.{Literals, literal_at}
use Rattle.shift_search.specs.ShiftOr.{IsCleared, IsPass, IsPassOf, bucket_at}

-- what was cleared before and what is cleared then together are what is cleared
pub more_cleared : {X Y Z P Q R : Type 0} → X ↔ (Y ⊎ P) → Z ↔ (X ⊎ Q) → (P ⊎ Q) ↔ R → Z ↔ (Y ⊎ R)
more_cleared before more both = (
  λ z. elim (more.0 z) [
    | inl x ↦ elim (before.0 x) [ inl y ↦ inl y | inr p ↦ inr (both.0 (inl p)) ]
    | inr q ↦ inr (both.0 (inr q))
  ],
  λ e. elim e [
    | inl y ↦ more.1 (inl (before.1 (inl y)))
    | inr r ↦ elim (both.1 r) [ inl p ↦ more.1 (inl (before.1 (inr p))) | inr q ↦ more.1 (inr q) ]
  ],
)

-- what is cleared, in other words
pub same_cleared : {X Y P Q : Type 0} → X ↔ (Y ⊎ P) → P ↔ Q → X ↔ (Y ⊎ Q)
same_cleared before same = (
  λ x. elim (before.0 x) [ inl y ↦ inl y | inr p ↦ inr (same.0 p) ],
  λ e. elim e [ inl y ↦ before.1 (inl y) | inr q ↦ before.1 (inr (same.1 q)) ],
)

-- with the entry of one number
pub entry_cleared : (items : List ℕ) (number old new bit : ℕ) → number < length items → slice_index items number ≡ old → IsCleared old new (λ place. place ≡ bit)
    → (other place : ℕ) → place < 64 → (bit_at (slice_index (set items number new) other) place ≡ 0) ↔ ((bit_at (slice_index items other) place ≡ 0) ⊎ ((other ≡ number) × (place ≡ bit)))
entry_cleared items number old new bit room read cleared other place small = elim (cases_eq other number) [
  | inr apart ↦
      let kept = ap (λ e. bit_at e place) (get_or-set_other items number other new 0 apart) in
      (λ zero. inl (sym kept ∙ zero), λ e. elim e [ inl zero ↦ kept ∙ zero | inr both ↦ absurd (apart both.0) ])
  | inl here ↦
      let written = ap (λ n. bit_at (slice_index (set items number new) n) place) here ∙ ap (λ e. bit_at e place) (get_or-set_same items number new 0 room) in
      let before = ap (λ n. bit_at (slice_index items n) place) here ∙ ap (λ e. bit_at e place) read in (
        λ zero. elim ((cleared place small).0 (sym written ∙ zero)) [ inl was ↦ inl (before ∙ was) | inr same ↦ inr (here, same) ],
        λ e. written ∙ (cleared place small).1 (elim e [ inl zero ↦ inl (sym before ∙ zero) | inr both ↦ inr both.1 ]),
      )
]

-- with the entries up to one more number
pub more_entries : (first number other place bit : ℕ) → first ≤ number
    → ((((first ≤ other) × (other < number)) × (place ≡ bit)) ⊎ ((other ≡ number) × (place ≡ bit))) ↔ (((first ≤ other) × (other < number + 1)) × (place ≡ bit))
more_entries first number other place bit ahead = (
  λ e. elim e [ inl p ↦ ((p.0.0, omega (arith, p.0.1)), p.1) | inr q ↦ ((omega (arith, q.0, ahead), omega (arith, q.0)), q.1) ],
  λ r. elim (cases_lt other number) [ inl sooner ↦ inl ((r.0.0, sooner), r.1) | inr past ↦ inr (omega (arith, past, r.0.1), r.1) ],
)

-- with the ends at one more position, where a literal fits if it fits there
pub more_ends : (Fits : List ℕ → ℕ → Type 0) (literal : List ℕ) (bucket ahead bit : ℕ) (Q : Type 0) → bucket < 8 → Q ↔ (Fits literal ahead × (bit ≡ 8 * ahead + bucket))
    → ((IsPassOf Fits literal bucket bit × (bit / 8 < ahead)) ⊎ Q) ↔ (IsPassOf Fits literal bucket bit × (bit / 8 < ahead + 1))
more_ends Fits literal bucket ahead bit Q small more = (
  λ e. elim e [
    | inl p ↦ (p.0, omega (arith, p.1))
    | inr q ↦
        let is = more.0 q in
        let same : ahead ≡ bit / 8 = omega (arith, is.1, small) in
        ((omega (arith, is.1, small), subst (Fits literal) same is.0), omega (arith, same))
  ],
  λ r. elim (cases_lt (bit / 8) ahead) [
    | inl sooner ↦ inl (r.0, sooner)
    | inr past ↦
        let same : bit / 8 ≡ ahead = omega (arith, past, r.1) in
        inr (more.1 (subst (Fits literal) same r.0.1, omega (arith, same, r.0.0)))
  ],
)

-- with one more literal
pub more_literals : (l : Literals) (buckets : List ℕ) (Fits : List ℕ → ℕ → Type 0) (place bit bucket : ℕ) (literal : List ℕ) → literal ≡ literal_at l place → bucket ≡ bucket_at buckets place
    → (IsPass l buckets Fits place bit ⊎ IsPassOf Fits literal bucket bit) ↔ IsPass l buckets Fits (place + 1) bit
more_literals l buckets Fits place bit bucket literal here its = (
  λ e. elim e [
    | inl is ↦ record { place = is.place; within = omega (arith, is.within); is = is.is }
    | inr is ↦ record { place = place; within = omega arith; is = (is.0 ∙ its, subst (λ t. Fits t (bit / 8)) here is.1) }
  ],
  λ is. elim (cases_lt is.place place) [
    | inl sooner ↦ inl (record { place = is.place; within = sooner; is = is.is })
    | inr past ↦
        let same : is.place ≡ place = omega (arith, past, is.within) in
        inr (is.is.0 ∙ ap (bucket_at buckets) same ∙ sym its, subst (λ t. Fits t (bit / 8)) (ap (literal_at l) same ∙ sym here) is.is.1)
  ],
)
