-- The state kept of a text that comes in pieces.
use Rattle.std.specs.Prelude.{◌+◌, ◌≤◌, vec_len}
use Rattle.lit_base.specs.Lines.{IsOnePiece}
use Rattle.line_pick.specs.declared.progress.Progress.{Progress}

-- no newline is held, and each line so far has a byte of its own, its newline
pub record IsSound (p : Progress) : Type 0 where
  pub one : IsOnePiece p.held.items
  pub counted : p.lines + vec_len p.held ≤ p.bytes
