-- The files of the tests, as contracts see them.
use Rattle.std.specs.Prelude.{ℕ, ◌-◌, ◌^◌, false, List, [], ◌∷◌, Option}
use Rattle.byte_io.specs.declared.cut_device.Cut.TheVariants.{Never}
use Rattle.byte_io.specs.CutDevices.{CutReader, CutWriter}

-- readers under names, several under one name in order, readers of standard input, and writers under names
pub record BorrowedSources : Type 0 where
  pub named : List (List ℕ × Option CutReader)
  pub standard : List CutReader
  pub creatable : List (List ℕ × Option CutWriter)

-- the first reader of standard input, or an empty one where none remains
abbrev pub reader_of : List CutReader → CutReader
reader_of [] = record { text = []; cut = Never; step = 2 ^ 64 - 1; given = 0; has_failed = false }
reader_of (d ∷ rest) = d

-- the readers that it leaves
abbrev pub readers_after : List CutReader → List CutReader
readers_after [] = []
readers_after (d ∷ rest) = rest
