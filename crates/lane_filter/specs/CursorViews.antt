-- The fields of a cursor over candidates.
use Rattle.std.specs.Prelude.{◌≤◌, length}
use Rattle.lane_filter.specs.Cursors.{Cursor}
use Rattle.byte_lanes.specs.PlacesAfter.{AreMarked}
use Rattle.lane_filter.specs.Prefilters.{Passes}
use Rattle.lane_filter.specs.declared.candidates.Candidates.TheInside.{Inside}

-- what contracts see of the fields
abbrev pub cursor_of : Inside → Cursor
cursor_of fields = record { prefilter = fields.prefilter.now; text = fields.text.now; from = fields.from }

-- the mask of `ends` has the candidates after the last end returned and up to `done`
pub record IsReady (fields : Inside) : Type 0 where
  pub within : fields.ends.done ≤ length fields.text.now
  pub marked : AreMarked (Passes fields.prefilter.now fields.text.now) fields.from fields.ends.first fields.ends.done fields.ends.mask
