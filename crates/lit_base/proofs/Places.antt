-- The element at a place of a list, as a read answers it.
use Rattle.std.proofs.Common.{◌≡◌, ℕ, ◌+◌, ◌<◌, List, [], ◌∷◌, ◌++◌, length, take, map, get_or, sym, ap, ◌∙◌, subst}
use Rattle.std.specs.List.{All, AllZip}
use Rattle.std.proofs.lemmas.List.{get_or-map, take-map, take_more}

-- the element that was read stands in the mapped list as its image
pub mapped_at : {X : Type 0} (f : X → ℕ) (xs : List X) (i : ℕ) (x : X) → i < length xs → x ≡ get_or xs i x → f x ≡ get_or (map f xs) i 0
mapped_at f xs i x h e = ap f e ∙ sym (get_or-map f xs i x 0 h)

-- what holds of all elements holds of the element that was read
pub holds_at : {X : Type 0} (P : X → Type 0) (xs : List X) (i : ℕ) (x : X) → i < length xs → x ≡ get_or xs i x → All P xs → P x
holds_at P xs i x h e all = subst P (sym e) (all i x h)

-- a list that was cut back to its unchanged part is, mapped, the old list
pub cut_back : {X Y : Type 0} (f : X → Y) (before now cut : List X) (n : ℕ) (old : List Y) → cut ≡ take n now → now ≡ before → take n (map f before) ≡ old → map f cut ≡ old
cut_back f before now cut n old is same kept =
    ap (map f) (is ∙ ap (take n) same) ∙ sym (take-map f n before) ∙ kept

-- two lists that go together, with one more each that go together
zipped-push : {X Y : Type 0} (R : X → Y → Type 0) (xs : List X) (ys : List Y) (x : X) (y : Y) → AllZip R xs ys → R x y → AllZip R (xs ++ x ∷ []) (ys ++ y ∷ [])
zipped-push R [] [] x y all here = (here, tt)
zipped-push R [] (b ∷ bs) x y all here = absurd all
zipped-push R (a ∷ more) [] x y all here = absurd all
zipped-push R (a ∷ more) (b ∷ bs) x y all here = (all.0, zipped-push R more bs x y all.1 here)

-- so do the prefix of a list and another list, with the next element and its partner
pub zipped_more : {X Y : Type 0} (R : X → Y → Type 0) (xs : List X) (ys zs : List Y) (i : ℕ) (x : X) (y : Y) → i < length xs → x ≡ get_or xs i x → AllZip R (take i xs) ys → R x y → zs ≡ ys ++ y ∷ [] → AllZip R (take (i + 1) xs) zs
zipped_more R xs ys zs i x y inside at all here is =
    let prefix : take i xs ++ x ∷ [] ≡ take (i + 1) xs = ap (λ e. take i xs ++ e ∷ []) at ∙ sym (take_more xs i x inside) in
    subst (λ ts. AllZip R ts zs) prefix (subst (λ us. AllZip R (take i xs ++ x ∷ []) us) (sym is) (zipped-push R (take i xs) ys x y all here))
