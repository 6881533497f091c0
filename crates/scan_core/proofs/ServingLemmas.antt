-- What holds of all streams of a session, with one fewer; and the results of a search for one.
use Rattle.std.proofs.Common.{ℕ, ◌≡◌, true, false, suc, List, take, drop, All, Option, Some, None, MatchOption, sym}
use Rattle.std.specs.Prelude.{is_some}
use Rattle.std.specs.List.{remove}
use Rattle.std.proofs.lemmas.Bool.{false≢true}
use Rattle.std.proofs.lemmas.List.Elements.{All-append, All-drop, All-take}

-- what holds of all elements holds of all but one
pub All-remove : {X : Type 0} (P : X → Type 0) (xs : List X) (i : ℕ) → All P xs → All P (remove xs i)
All-remove P xs i all = All-append P (take i xs) (drop (suc i) xs) (All-take P i xs all) (All-drop P (suc i) xs all)

-- a search that found something
pub found : {X : Type 0} (o : Option X) (P : Type 0) (Q : X → Type 0) → MatchOption o P Q → is_some o ≡ true → (x : X) × Q x
found (Some x) P Q here some = (x, here)
found None P Q here some = absurd (false≢true some)

-- a search that found nothing
pub found_none : {X : Type 0} (o : Option X) (P : Type 0) (Q : X → Type 0) → MatchOption o P Q → is_some o ≡ false → P
found_none (Some x) P Q here none = absurd (false≢true (sym none))
found_none None P Q here none = here
