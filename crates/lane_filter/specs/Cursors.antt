-- The state of a cursor over the candidates of a text.
use Rattle.std.specs.Prelude.{ℕ, List}
use Rattle.lane_filter.specs.declared.prefilter.Prefilter.{Prefilter}

-- the prefilter, the text, and the last end returned, or the position after which the first is sought
pub record Cursor : Type 0 where
  pub prefilter : Prefilter
  pub text : List ℕ
  pub from : ℕ
