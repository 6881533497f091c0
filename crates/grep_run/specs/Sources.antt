-- The inputs of grep: the content found at each ask, and its name.
use Rattle.std.specs.Prelude.{ℕ, List, [], ◌∷◌, codes, Option}
use Rattle.byte_io.specs.Sources.{Ask, Content, Created, Named, Sources, Standard, after, taken_by}

-- the name of standard input
abbrev pub standard_name : List ℕ
standard_name = codes "(standard input)"

-- the name of an ask in messages and prefixes
abbrev pub name_of : Ask → List ℕ
name_of (Named name) = name
name_of Standard = standard_name
name_of (Created name) = name

-- an ask, and the content there was: None where it cannot be opened
pub record Input : Type 0 where
  pub ask : Ask
  pub source : Option Content

-- what one ask after another finds
abbrev pub found : List Ask → Sources → List Input
found [] s = []
found (a ∷ asks) s = record { ask = a; source = taken_by a s } ∷ found asks (after a s)
