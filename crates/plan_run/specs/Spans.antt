-- A text in spans, which are scanned one after the other.
use Rattle.std.specs.Prelude.{ℕ, ◌<◌, ◌≤◌, List, length, take}
use Rattle.lit_base.specs.Literals.{Literals}
use Rattle.text_ends.specs.HitsAfter.{AreHitsAfter}

-- a span of a text, from one position to another, and the hits that end in it
pub record IsSpan (l : Literals) (text : List ℕ) (from end : ℕ) (hits : List (ℕ × ℕ)) : Type 0 where
  pub some : from < end
  pub within : end ≤ length text
  pub hits_are : AreHitsAfter l (take end text) from from hits
