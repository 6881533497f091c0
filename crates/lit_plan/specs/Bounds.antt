-- The bounds of the lengths of a list's literals.
use Rattle.std.specs.Prelude.{◌≡◌, ℕ, ◌+◌, ◌-◌, ◌<◌, ◌≤◌, List, length, slice_index, Some}
use Rattle.std.specs.List.{slice_get}
use Rattle.lit_base.specs.Literals.{Literals, lengths}

-- how many bytes of a literal may precede a piece in which it ends: one less than the longest has, which is the last
abbrev pub carry_of : Literals → ℕ
carry_of l = slice_index (lengths l) (length l.texts - 1) - 1

-- no literal is empty, or longer than the overlap and one byte
pub record HasBounds (l : Literals) : Type 0 where
  pub some : (place : ℕ) (literal : List ℕ) → slice_get l.texts place ≡ Some literal → 0 < length literal
  pub fits : (place : ℕ) (literal : List ℕ) → slice_get l.texts place ≡ Some literal → length literal ≤ carry_of l + 1
