-- Where the occurrence of a hit starts.
use Rattle.std.specs.Prelude.{◌≡◌, ℕ, ◌+◌, List, length, Some}
use Rattle.std.specs.List.{slice_get}
use Rattle.lit_base.specs.Literals.{Literals}

-- after `start` bytes of a stream: the literal at a place of the list spans from there to the hit's end
pub record StartsAt (l : Literals) (place end start : ℕ) : Type 0 where
  pub literal : List ℕ
  pub stands : slice_get l.texts place ≡ Some literal
  pub bytes : start + length literal ≡ end
