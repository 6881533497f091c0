-- The tables of a filter as vectors.
use Rattle.std.specs.Prelude.{[], slice_index_or}
use Rattle.nib_mask.specs.declared.masks.Masks.{Masks}
use Rattle.byte_lanes.specs.Lanes.{HoldsTwice}
use Rattle.byte_lanes.specs.declared.tables.Tables.{Tables}

-- the vectors hold the tables of the masks
pub record AreTablesOf (masks : Masks) (tables : Tables) : Type 0 where
  pub third_low : HoldsTwice tables.third_low (slice_index_or masks.low 0 [])
  pub third_high : HoldsTwice tables.third_high (slice_index_or masks.high 0 [])
  pub second_low : HoldsTwice tables.second_low (slice_index_or masks.low 1 [])
  pub second_high : HoldsTwice tables.second_high (slice_index_or masks.high 1 [])
  pub last_low : HoldsTwice tables.last_low (slice_index_or masks.low 2 [])
  pub last_high : HoldsTwice tables.last_high (slice_index_or masks.high 2 [])
