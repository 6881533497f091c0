-- The fields of a cursor over the literals that end at one position of a text.
use Rattle.std.specs.Prelude.{◌≤◌, length}
use Rattle.list_index.specs.Chains.{HaveWidths}
use Rattle.list_index.specs.EndingCursors.{EndingCursor}
use Rattle.list_index.specs.declared.endings.Endings.TheInside.{Inside}

-- what contracts see of the fields
abbrev pub cursor_of : Inside → EndingCursor
cursor_of fields = record { literals = fields.list.now; text = fields.text.now; end = fields.end; from = fields.from }

-- the position lies in the text, and each remaining literal has the bit of its key width
pub record IsReady (fields : Inside) : Type 0 where
  pub inside : fields.end ≤ length fields.text.now
  pub keyed : HaveWidths fields.list.now fields.text.now fields.from fields.end fields.widths
