-- The lines printed of hits.
use Rattle.std.specs.Prelude.{ℕ, ◌-◌, List, [], ◌++◌, codes, decimal, flat_map, length}
use Rattle.std.specs.List.{slice_get}
use Rattle.std.specs.Option.{unwrap_or}
use Rattle.lit_base.specs.Literals.{Literals}

-- where an occurrence starts, its literal, and the line of the pattern
abbrev pub line_text : ℕ → List ℕ → ℕ → List ℕ
line_text start literal line = decimal start ++ (codes " " ++ (literal ++ (codes " " ++ (decimal line ++ codes "\n"))))

-- the literal of a hit
abbrev pub literal_of : Literals → ℕ × ℕ → List ℕ
literal_of l hit = unwrap_or (slice_get l.texts hit.0) []

-- the line of a hit, which starts where it ends less its length
abbrev pub hit_line : Literals → List ℕ → ℕ × ℕ → List ℕ
hit_line l lines hit = line_text (hit.1 - length (literal_of l hit)) (literal_of l hit) (unwrap_or (slice_get lines hit.0) 0)

-- a line each
abbrev pub hit_lines : Literals → List ℕ → List (ℕ × ℕ) → List ℕ
hit_lines l lines hits = flat_map (hit_line l lines) hits
