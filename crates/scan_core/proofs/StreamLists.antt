-- Streams by their numbers, no two equal: the stream found after an opening, a move and a closing.
use Rattle.std.proofs.Common.{◌≡◌, ℕ, Bool, true, false, cond, List, [], ◌∷◌, ◌++◌, length, Some, None, inl, inr, refl, sym, ap, ◌∙◌, subst}
use Rattle.std.specs.Prelude.{is_some, nat_eq}
use Rattle.std.specs.List.{IsDistinct}
use Rattle.std.specs.Map.{keys_of, lookup, remove_entry, set_value}
use Rattle.std.proofs.lemmas.Bool.{cond_both, eqb-true}
use Rattle.std.proofs.lemmas.Bool.Decides.{eqb_tells}
use Rattle.std.proofs.lemmas.Cmp.{nat_eq_equiv}
use Rattle.std.proofs.lemmas.List.{map-append}
use Rattle.std.proofs.lemmas.List.Edits.{insert_end}
use Rattle.std.proofs.lemmas.List.Elements.{All-from_recursion, recursion_from_All}
use Rattle.std.proofs.lemmas.Map.{keys-set_value, lookup-insert, lookup-remove_entry, lookup-set_value, none_passes_from_lookup}
use Rattle.std.proofs.lemmas.Map.Keys.{IsDistinct-cons, IsDistinct-head, IsDistinct-push, IsDistinct-tail}
use Rattle.std.proofs.lemmas.Map.Made.{is_some-lookup}
use Rattle.std.proofs.lemmas.Map.Views.{All-map-remove_entry}

-- no two streams have one number
abbrev pub Apart : {S : Type 0} → List (ℕ × S) → Type 0
Apart ss = IsDistinct nat_eq (keys_of ss)

pub apart_none : (S : Type 0) → Apart {S = S} []
unfolding IsDistinct
apart_none S = tt

-- a choice whose test is known
pub when_so : {X : Type 0} (b : Bool) (x y : X) → b ≡ true → cond b x y ≡ x
when_so b x y is = ap (λ t. cond t x y) is

pub when_not : {X : Type 0} (b : Bool) (x y : X) → b ≡ false → cond b x y ≡ y
when_not b x y is = ap (λ t. cond t x y) is

-- a number that passes the test of another is that number
same_test : (n x y : ℕ) → nat_eq n x ≡ true → nat_eq n y ≡ nat_eq x y
same_test n x y is = ap (λ k. nat_eq k y) (eqb-true n x is)

-- after a closing the others are found as before, and the closed one is not
pub lookup_removed : {S : Type 0} (m n : ℕ) (ss : List (ℕ × S)) → Apart ss → lookup (nat_eq m) (remove_entry (nat_eq n) ss) ≡ cond (nat_eq n m) None (lookup (nat_eq m) ss)
lookup_removed m n ss apart = lookup-remove_entry nat_eq_equiv (nat_eq n) (same_test n) m ss apart

pub apart_removed : {S : Type 0} (n : ℕ) (ss : List (ℕ × S)) → Apart ss → Apart (remove_entry (nat_eq n) ss)
apart_removed n [] apart = apart
apart_removed n (s ∷ ss) apart =
    let rest = IsDistinct-tail nat_eq s.0 (keys_of ss) apart in
    let P : ℕ → Type 0 = λ m. nat_eq s.0 m ≡ false in
    let others = All-map-remove_entry (nat_eq n) (λ t. t.0) P ss (All-from_recursion P (keys_of ss) (IsDistinct-head nat_eq s.0 (keys_of ss) apart)) in
    cond_both (nat_eq n s.0) ss (s ∷ remove_entry (nat_eq n) ss) Apart (λ _. rest)
    (λ _. IsDistinct-cons nat_eq s.0 _ (recursion_from_All P _ others) (apart_removed n ss rest))

-- after a move the others are found as before, and the stream that moved is in its new state
pub lookup_set : {S : Type 0} (m n : ℕ) (ss : List (ℕ × S)) (v w : S) → lookup (nat_eq n) ss ≡ Some v → lookup (nat_eq m) (set_value (nat_eq n) ss w) ≡ cond (nat_eq n m) (Some w) (lookup (nat_eq m) ss)
lookup_set m n ss v w at = lookup-set_value nat_eq_equiv (nat_eq n) (same_test n) m w ss (ap is_some at)

pub apart_set : {S : Type 0} (n : ℕ) (ss : List (ℕ × S)) (w : S) → Apart ss → Apart (set_value (nat_eq n) ss w)
apart_set n ss w apart = subst (IsDistinct nat_eq) (sym (keys-set_value (nat_eq n) ss w)) apart

-- after an opening the others are found as before, and the opened one is
pub lookup_pushed : {S : Type 0} (m n : ℕ) (ss : List (ℕ × S)) (w : S) → lookup (nat_eq n) ss ≡ None → lookup (nat_eq m) (ss ++ (n, w) ∷ []) ≡ cond (nat_eq n m) (Some w) (lookup (nat_eq m) ss)
lookup_pushed m n ss w none =
    ap (lookup (nat_eq m)) (sym (insert_end ss (n, w))) ∙ lookup-insert nat_eq_equiv n w m ss (length ss) (none_passes_from_lookup (nat_eq n) ss none)

pub apart_pushed : {S : Type 0} (n : ℕ) (ss : List (ℕ × S)) (w : S) → lookup (nat_eq n) ss ≡ None → Apart ss → Apart (ss ++ (n, w) ∷ [])
apart_pushed {S} n ss w none apart =
    subst (IsDistinct nat_eq) (sym (map-append (λ (s : ℕ × S). s.0) ss ((n, w) ∷ [])))
    (IsDistinct-push nat_eq_equiv (keys_of ss) n apart (sym (is_some-lookup (nat_eq n) ss) ∙ ap is_some none))

-- the later of two moves counts
pub set_twice : {S : Type 0} (n : ℕ) (ss : List (ℕ × S)) (v w : S) → set_value (nat_eq n) (set_value (nat_eq n) ss v) w ≡ set_value (nat_eq n) ss w
set_twice n [] v w = refl
set_twice {S} n (s ∷ ss) v w = elim (eqb_tells n s.0) [
  | inl t ↦ simp t.0
  | inr f ↦ simp (f.0, set_twice n ss v w)
]
