-- The stream that stands first is the one looked up, set and removed.
use Rattle.std.proofs.Common.{◌≡◌, ◌≢◌, ℕ, zero, suc, ◌<◌, ◌==◌, true, false, cond, List, [], ◌∷◌, length, Some, None, refl, sym, ap, ◌∙◌, arith}
use Rattle.std.specs.Prelude.{nat_eq}
use Rattle.std.specs.List.{remove, slice_get}
use Rattle.std.specs.Map.{lookup, remove_entry, set_value}
use Rattle.std.proofs.Math.ListN.{set}
use Rattle.std.proofs.lemmas.Bool.{eq-eqb, ne_eqb}
use Rattle.std.proofs.lemmas.Option.{none-some, same_Some}
use Rattle.scan_core.specs.Streams.{StandsAt}

-- where no stream has the number, none is found
pub lookup_none : {S : Type 0} (n : ℕ) (ss : List (ℕ × S)) → ((i : ℕ) (other : ℕ × S) → i < length ss → slice_get ss i ≡ Some other → other.0 ≢ n) → lookup (nat_eq n) ss ≡ None
lookup_none n [] none = refl
lookup_none {S} n (s ∷ ss) none =
    let here : (n == s.0) ≡ false = ne_eqb n s.0 (λ e. none 0 s (omega arith) refl (sym e)) in
    ap (λ b. cond b (Some s.1) (lookup (nat_eq n) ss)) here
    ∙ lookup_none n ss (λ i other within at. none (suc i) other (omega (arith, within)) at)

-- the rest of the streams, from the second on
abbrev rest_stands : {S : Type 0} (n : ℕ) (s : ℕ × S) (ss : List (ℕ × S)) (p : ℕ) → StandsAt n (s ∷ ss) (suc p) → StandsAt n ss p
rest_stands n s ss p at = record {
  state = at.state;
  here = at.here;
  first = λ earlier other before stands. at.first (suc earlier) other (omega (arith, before)) stands;
}

-- the first stream has another number
head_differs : {S : Type 0} (n : ℕ) (s : ℕ × S) (ss : List (ℕ × S)) (p : ℕ) → StandsAt n (s ∷ ss) (suc p) → (n == s.0) ≡ false
head_differs n s ss p at = ne_eqb n s.0 (λ e. at.first 0 s (omega arith) refl (sym e))

-- the first stream has the number
head_is : {S : Type 0} (n : ℕ) (s : ℕ × S) (ss : List (ℕ × S)) → (at : StandsAt n (s ∷ ss) zero) → s ≡ (n, at.state)
head_is n s ss at = same_Some s (n, at.state) at.here

head_equals : {S : Type 0} (n : ℕ) (s : ℕ × S) (ss : List (ℕ × S)) → StandsAt n (s ∷ ss) zero → (n == s.0) ≡ true
head_equals n s ss at = eq-eqb n s.0 (sym (ap (λ t. t.0) (head_is n s ss at)))

-- the state that stands first is found
pub lookup_at : {S : Type 0} (n : ℕ) (ss : List (ℕ × S)) (p : ℕ) (at : StandsAt n ss p) → lookup (nat_eq n) ss ≡ Some at.state
lookup_at n [] p at = absurd (none-some (n, at.state) at.here)
lookup_at n (s ∷ ss) zero at =
    ap (λ b. cond b (Some s.1) (lookup (nat_eq n) ss)) (head_equals n s ss at) ∙ ap (λ t. Some t.1) (head_is n s ss at)
lookup_at n (s ∷ ss) (suc p) at =
    ap (λ b. cond b (Some s.1) (lookup (nat_eq n) ss)) (head_differs n s ss p at) ∙ lookup_at n ss p (rest_stands n s ss p at)

-- it is removed
pub remove_at : {S : Type 0} (n : ℕ) (ss : List (ℕ × S)) (p : ℕ) → StandsAt n ss p → remove ss p ≡ remove_entry (nat_eq n) ss
remove_at n [] p at = absurd (none-some (n, at.state) at.here)
remove_at n (s ∷ ss) zero at =
    sym (ap (λ b. cond b ss (s ∷ remove_entry (nat_eq n) ss)) (head_equals n s ss at))
remove_at n (s ∷ ss) (suc p) at =
    ap (λ ts. s ∷ ts) (remove_at n ss p (rest_stands n s ss p at))
    ∙ sym (ap (λ b. cond b ss (s ∷ remove_entry (nat_eq n) ss)) (head_differs n s ss p at))

-- it is put in place
pub set_at : {S : Type 0} (n : ℕ) (ss : List (ℕ × S)) (p : ℕ) (next : S) → StandsAt n ss p → set ss p (n, next) ≡ set_value (nat_eq n) ss next
set_at n [] p next at = absurd (none-some (n, at.state) at.here)
set_at n (s ∷ ss) zero next at =
    ap (λ m. (m, next) ∷ ss) (sym (ap (λ t. t.0) (head_is n s ss at)))
    ∙ sym (ap (λ b. cond b ((s.0, next) ∷ ss) (s ∷ set_value (nat_eq n) ss next)) (head_equals n s ss at))
set_at n (s ∷ ss) (suc p) next at =
    ap (λ ts. s ∷ ts) (set_at n ss p next (rest_stands n s ss p at))
    ∙ sym (ap (λ b. cond b ((s.0, next) ∷ ss) (s ∷ set_value (nat_eq n) ss next)) (head_differs n s ss p at))
