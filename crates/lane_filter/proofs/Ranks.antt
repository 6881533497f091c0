-- The rarest place other than those chosen before: the place found among those tried so far.
use Rattle.std.proofs.Common.{◌≡◌, ◌≢◌, ℕ, ◌+◌, ◌-◌, ◌<◌, ◌≤◌, List, get_or, inl, inr, arith}
use Rattle.std.proofs.lemmas.Bool.{cases_eq}
use Rattle.lane_filter.specs.Pairs.{BytePair, IsOneOf}

-- of the places from start up to `place`, the one found costs `least`: 512 or more if it is the one chosen before, 256
-- or more if it has the same byte; and less, if another place was tried, or one with another byte
pub record IsBeside (literal : List ℕ) (start place found chosen least : ℕ) : Type 0 where
  pub here : found ≡ chosen → 512 ≤ least
  pub apart : (q : ℕ) → start ≤ q → q < place → q ≢ chosen → least < 512
  pub like : get_or literal found 0 ≡ get_or literal chosen 0 → 256 ≤ least
  pub unlike : (q : ℕ) → start ≤ q → q < place → get_or literal q 0 ≢ get_or literal chosen 0 → least < 256

-- of the places from start up to `place`, the one found costs `least`: 256 or more if it is in the pair, and less if
-- another was tried
pub record IsBesidePair (pair : BytePair) (len start place found least : ℕ) : Type 0 where
  pub here : IsOneOf pair (len - 1 - found) → 256 ≤ least
  pub apart : (q : ℕ) → start ≤ q → q < place → ¬ IsOneOf pair (len - 1 - q) → least < 256

-- where three or more were tried, the place found is not one of the pair
pub third_apart : (pair : BytePair) (len start found least : ℕ) → IsBesidePair pair len start len found least → start + 3 ≤ len → ¬ IsOneOf pair (len - 1 - found)
third_apart pair len start found least is three taken =
    let much = is.here taken in
    let none : (q : ℕ) → start ≤ q → q < len → pair.one.after ≢ len - 1 - q → pair.other.after ≢ len - 1 - q → ⊥ =
    λ q from below one two. omega (arith, much, is.apart q from below (λ e. elim e [ inl a ↦ one a | inr b ↦ two b ])) in
    elim (cases_eq pair.one.after (len - 1 - start)) [
      | inl a ↦ elim (cases_eq pair.other.after (len - 1 - (start + 1))) [
        | inl b ↦ none (start + 2) (omega arith) (omega arith) (λ e. omega (arith, a, e)) (λ e. omega (arith, b, e))
        | inr b ↦ none (start + 1) (omega arith) (omega arith) (λ e. omega (arith, a, e)) b
      ]
      | inr a ↦ elim (cases_eq pair.other.after (len - 1 - start)) [
        | inl b ↦ elim (cases_eq pair.one.after (len - 1 - (start + 1))) [
          | inl c ↦ none (start + 2) (omega arith) (omega arith) (λ e. omega (arith, c, e)) (λ e. omega (arith, b, e))
          | inr c ↦ none (start + 1) (omega arith) (omega arith) c (λ e. omega (arith, b, e))
        ]
        | inr b ↦ none start (omega arith) (omega arith) a b
      ]
    ]
