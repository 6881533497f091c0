-- The widths of a list's factors: four bytes, or the whole of a shorter literal.
use Rattle.std.specs.Prelude.{ℕ, ◌<◌, ◌≤◌, length, min}
use Rattle.lit_base.specs.Literals.{Literals, literal_at}
use Rattle.factor_search.specs.declared.widths.TheConstants.{WIDTH}

-- how many bytes the factor of a literal has
abbrev pub width_at : Literals → ℕ → ℕ
width_at l place = min WIDTH (length (literal_at l place))

-- no factor is shorter than the least width
pub record IsLeastWidth (l : Literals) (width : ℕ) : Type 0 where
  pub some : 0 < width
  pub least : (place : ℕ) → place < length l.texts → width ≤ width_at l place
