-- Edits of a list of optional elements that has all of them.
use Rattle.std.proofs.Common.{◌≡◌, ℕ, zero, suc, ◌<◌, List, [], ◌∷◌, ◌++◌, length, get_or, set, take, drop, map, Option, Some, None, refl, sym, ap, ◌∙◌, arith}
use Rattle.std.specs.Prelude.{IsSome}
use Rattle.std.specs.List.{remove}
use Rattle.std.proofs.lemmas.List.{drop-map, map-append, map-set, take-map}
use Rattle.std.proofs.lemmas.Option.{none-some, same_Some}
use Rattle.scan_core.specs.BoundedVecs.{somes}

-- the elements of a list that has all of them
pub somes-map : {T : Type 0} (xs : List T) → somes (map Some xs) ≡ xs
somes-map [] = refl
somes-map (x ∷ xs) = ap (λ ys. x ∷ ys) (somes-map xs)

-- the elements of a list where none is missing
pub somes_all : {T : Type 0} (items : List (Option T)) (xs : List T) → items ≡ map Some xs → somes items ≡ xs
somes_all items xs all = ap somes all ∙ somes-map xs

-- it has all of its own
pub all_somes : {T : Type 0} (items : List (Option T)) (xs : List T) → items ≡ map Some xs → items ≡ map Some (somes items)
all_somes items xs all = all ∙ ap (map Some) (sym (somes_all items xs all))

-- removing from images is removing from the elements
pub remove-map : {X Y : Type 0} (f : X → Y) (xs : List X) (i : ℕ) → remove (map f xs) i ≡ map f (remove xs i)
remove-map f xs i =
    ap (λ ys. ys ++ drop (suc i) (map f xs)) (take-map f i xs)
    ∙ ap (λ ys. map f (take i xs) ++ ys) (drop-map f (suc i) xs)
    ∙ sym (map-append f (take i xs) (drop (suc i) xs))

-- each of its places has an element
pub some_at : {T : Type 0} (xs : List T) (i : ℕ) (d : Option T) → i < length xs → get_or (map Some xs) i d ≡ None → ⊥
some_at [] i d within none = omega arith
some_at (x ∷ xs) zero d within none = none-some x (sym none)
some_at (x ∷ xs) (suc i) d within none = some_at xs i d (omega (arith, within)) none

-- so none is missing there
pub is_some_at : {T : Type 0} (xs : List T) (i : ℕ) (d : Option T) → i < length xs → IsSome (get_or (map Some xs) i d)
is_some_at [] i d within = absurd (omega (arith, within))
is_some_at (x ∷ xs) zero d within = refl
is_some_at (x ∷ xs) (suc i) d within = is_some_at xs i d (omega (arith, within))

-- and it is that of the list
pub element_at : {T : Type 0} (xs : List T) (i : ℕ) (d : Option T) (x : T) → i < length xs → get_or (map Some xs) i d ≡ Some x → x ≡ get_or xs i x
element_at [] i d x within is = absurd (omega (arith, within))
element_at (y ∷ ys) zero d x within is = sym (same_Some y x is)
element_at (y ∷ ys) (suc i) d x within is = element_at ys i d x (omega (arith, within)) is

-- a write to one of its places
pub set_some : {T : Type 0} (items : List (Option T)) (xs : List T) (i : ℕ) (x : T) → items ≡ map Some xs → set items i (Some x) ≡ map Some (set xs i x)
set_some items xs i x all = ap (λ l. set l i (Some x)) all ∙ sym (map-set Some xs i x)
