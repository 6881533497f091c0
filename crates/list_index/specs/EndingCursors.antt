-- The state of a cursor over the literals that end at one position of a text.
use Rattle.std.specs.Prelude.{ℕ, List}
use Rattle.lit_base.specs.Literals.{Literals}

-- the literals, the text, the position where they end, and the place of the list from which the search continues
pub record EndingCursor : Type 0 where
  pub literals : Literals
  pub text : List ℕ
  pub end : ℕ
  pub from : ℕ
