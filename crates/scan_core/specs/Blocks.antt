-- Long lists in blocks.
use Rattle.std.specs.Prelude.{◌≡◌, ◌≢◌, ℕ, List, [], ◌∷◌, ◌++◌, length, take, drop}

-- the blocks of a list: each has as many elements as a block may have, but the last, and none is empty
abbrev pub AreBlocks : {X : Type 0} → ℕ → List X → List (List X) → Type 0
AreBlocks most xs [] = xs ≡ []
AreBlocks most xs (block ∷ blocks) = (xs ≢ []) × (block ≡ take most xs) × AreBlocks most (drop most xs) blocks

-- the elements of blocks
abbrev pub joined : {X : Type 0} → List (List X) → List X
joined [] = []
joined (block ∷ blocks) = block ++ joined blocks

-- blocks that have as many elements as a block may have
abbrev pub AreFull : {X : Type 0} → ℕ → List (List X) → Type 0
AreFull most [] = Unit {0}
AreFull most (block ∷ blocks) = (length block ≡ most) × AreFull most blocks
