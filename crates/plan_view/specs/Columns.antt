-- Numbers in columns.
use Rattle.std.specs.Prelude.{ℕ, ◌-◌, List, ◌++◌, decimal, flat_map, length, replicate}

-- a text at the right of a column of `width` places, with spaces before it; a longer one goes past the column
abbrev pub right : ℕ → List ℕ → List ℕ
right width text = replicate (width - length text) 32 ++ text

-- a number in its column
abbrev pub column : ℕ × ℕ → List ℕ
column c = right c.0 (decimal c.1)

-- columns side by side, each a width and a number
abbrev pub columns : List (ℕ × ℕ) → List ℕ
columns cs = flat_map column cs
