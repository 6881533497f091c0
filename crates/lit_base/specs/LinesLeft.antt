-- The remaining lines of a text.
use Rattle.std.specs.Prelude.{ℕ, List}
use Rattle.lit_base.specs.declared.lines.Lines.{Lines}
use Rattle.lit_base.specs.Lines.{lines}

-- the lines that an iterator over them has yet to give
abbrev pub lines_left : Lines → List (List ℕ)
lines_left l = lines l.rest.now
