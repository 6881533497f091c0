-- Membership in a list by recursion, for inductions; `Contains` says the same by places.
use Rattle.std.proofs.Common.{◌≡◌, ℕ, zero, suc, ◌<◌, List, [], ◌∷◌, length, get_or, Contains, ◌⊎◌, inl, inr, arith}

-- t is an element
abbrev pub In : {X : Type 0} → X → List X → Type 0
In t [] = ⊥
In t (x ∷ xs) = (x ≡ t) ⊎ In t xs

-- what stands at a place is an element
in_at : {X : Type 0} (t : X) (k : ℕ) (xs : List X) → k < length xs → get_or xs k t ≡ t → In t xs
in_at t k [] h e = absurd (omega arith)
in_at t zero (x ∷ xs) h e = inl e
in_at t (suc k) (x ∷ xs) h e = inr (in_at t k xs (omega arith) e)

pub in_from_contains : {X : Type 0} (t : X) (xs : List X) → Contains xs t → In t xs
in_from_contains t xs w = in_at t w.0 xs w.1 w.2

pub contains_from_in : {X : Type 0} (t : X) (xs : List X) → In t xs → Contains xs t
contains_from_in t [] h = absurd h
contains_from_in t (x ∷ xs) (inl e) = (zero, omega arith, e)
contains_from_in t (x ∷ xs) (inr h) = let w = contains_from_in t xs h in (suc w.0, omega (arith, w.1), w.2)
