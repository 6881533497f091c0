-- The remaining patterns of a text.
use Rattle.std.specs.Prelude.{ℕ, List, [], ◌∷◌, ◌++◌, if◌then◌else◌}
use Rattle.lit_base.specs.declared.patterns.Patterns.{Patterns}
use Rattle.lit_base.specs.LinesLeft.{lines_left}

-- the lines, and after them a null pattern where one is due
abbrev pub patterns_of : Patterns → List (List ℕ)
patterns_of p = lines_left p.lines ++ (if p.null_is_due then [] ∷ [] else [])
