-- The elements of a list of optional elements.
use Rattle.std.specs.Prelude.{List, [], ◌∷◌, Option, Some, None}

-- the elements that are there, in order
abbrev pub somes : {T : Type 0} → List (Option T) → List T
somes [] = []
somes (None ∷ items) = somes items
somes (Some item ∷ items) = item ∷ somes items
