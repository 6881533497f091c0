-- The lengths and first bytes of literals, which rule out most lines.
use Rattle.std.specs.Prelude.{◌≡◌, ◌+◌, ◌*◌, ◌-◌, ◌<◌, ℕ, Bool, true, false, List, length, min, slice_index_or}
use Rattle.lit_base.specs.Literals.{Literals, literal_at}
use Rattle.line_pick.specs.declared.whole_lines.TheConstants.{LENGTHS}

-- the entry of a length and a first byte
abbrev pub start_of : ℕ → ℕ → ℕ
start_of len first = min len (LENGTHS - 1) * 256 + first

-- a text has its entry
abbrev pub HasStart : List Bool → List ℕ → Type 0
HasStart starts text = slice_index_or starts (start_of (length text) (slice_index_or text 0 0)) false ≡ true

-- each literal has its entry
abbrev pub AreStartsOf : Literals → List Bool → Type 0
AreStartsOf l starts = (place : ℕ) → place < length l.texts → HasStart starts (literal_at l place)
