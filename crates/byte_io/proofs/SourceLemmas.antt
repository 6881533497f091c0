-- The first source under a name, found from the start.
use Rattle.std.proofs.Common.{◌≡◌, ℕ, ◌+◌, ◌<◌, true, cond, List, ◌∷◌, map, length, drop, get_or, Option, sym, ap, ◌∙◌}
use Rattle.std.specs.Str.{bytes_eq}
use Rattle.std.proofs.lemmas.List.{drop_more, get_or_default}
use Rattle.byte_io.specs.Sources.{source_of}

-- the first entry under the name is taken
source_of-first : {T : Type 0} (name : List ℕ) (e : List ℕ × Option T) (rest : List (List ℕ × Option T)) → bytes_eq e.0 name ≡ true → source_of name (e ∷ rest) ≡ e.1
source_of-first name e rest same = ap (λ b. cond b e.1 (source_of name rest)) same

module _ {X T : Type 0} (f : X → List ℕ × Option T) (name : List ℕ) (xs : List X) (place : ℕ) (inside : place < length xs) where
  -- the entry at a place, and those after it
  entries-at : (x : X) → x ≡ get_or xs place x → map f (drop place xs) ≡ f x ∷ map f (drop (place + 1) xs)
  entries-at x at = ap (map f) (drop_more xs place x inside) ∙ ap (λ y. f y ∷ map f (drop (place + 1) xs)) (sym at)

  -- where no entry before the place has the name, and the one at it has, it is the first
  pub first-at : (x y : X) → x ≡ get_or xs place x → y ≡ get_or xs place y → bytes_eq (f x).0 name ≡ true
      → source_of name (map f xs) ≡ source_of name (map f (drop place xs)) → (f y).1 ≡ source_of name (map f xs)
  first-at x y at again same before =
      let one : x ≡ y = at ∙ get_or_default xs place x y inside ∙ sym again in
      sym (before ∙ ap (source_of name) (entries-at x at) ∙ source_of-first name (f x) (map f (drop (place + 1) xs)) same ∙ ap (λ z. (f z).1) one)
