-- The state of a walk over the ends of a text.
use Rattle.std.specs.Prelude.{◌≡◌, ◌≤◌, ℕ, List}
use Rattle.lit_base.specs.Literals.{Literals}

-- the literals, the text, and the position after which the next end is searched for
pub record Walk : Type 0 where
  pub literals : Literals
  pub text : List ℕ
  pub from : ℕ

-- a walk has gone on: through the same text, for the same literals, and not back
pub record HasGoneOn (old new : Walk) : Type 0 where
  pub literals : new.literals ≡ old.literals
  pub text : new.text ≡ old.text
  pub ahead : old.from ≤ new.from
