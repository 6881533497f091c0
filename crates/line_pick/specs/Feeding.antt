-- What a picker does with a piece of a stream, and at its end.
use Rattle.std.specs.Prelude.{◌≡◌, ◌≢◌, ◌≤◌, ◌↔◌, ℕ, ◌+◌, ◌^◌, List, [], ◌++◌, length, if◌then◌else◌, Result, Ok, Err, IfSome}
use Rattle.lit_base.specs.Lines.{ended_lines, last_line, open_rest}
use Rattle.line_pick.specs.declared.fault.Fault.{Fault}
use Rattle.line_pick.specs.declared.fault.Fault.TheVariants.{StreamTooLong}
use Rattle.line_pick.specs.declared.sink.Next.{Next}
use Rattle.line_pick.specs.declared.sink.Next.TheVariants.{More}
use Rattle.line_pick.specs.Emitting.{Emits, Emitted, as_numbered, numbered}
use Rattle.line_pick.specs.Matching.{selects}
use Rattle.line_pick.specs.OpenLines.{Keeps, most_kept}
use Rattle.line_pick.specs.Picking.{Picking, answer_in, fed_state, finished_state}

-- the selected lines among the next lines, with their numbers
abbrev pub picked : Picking → List (List ℕ) → List (ℕ × List ℕ)
picked p lines = numbered (selects p.plan p.has_empty p.rule) p.lines lines

-- the picker after a piece: it holds the open rest of the held bytes and the piece
abbrev pub fed : Picking → List ℕ → Picking
fed p piece = record p {
  held = open_rest (p.held ++ piece);
  lines = if p.is_numbered then p.lines + length (ended_lines (p.held ++ piece)) else 0;
  bytes = p.bytes + length piece;
}

-- a picker was fed a piece: it holds what is kept of the open rest
pub record IsFed (old : Picking) (piece : List ℕ) (new : Picking) : Type 0 where
  pub rest : new ≡ record (fed old piece) { held = new.held }
  pub held : Keeps old.has_bytes (selects old.plan old.has_empty old.rule) (most_kept old.plan) new.held (open_rest (old.held ++ piece))

-- a running picker is fed: it emits the selected lines that the piece ends, and is refused exactly where the bytes fed
-- would pass 2^64 - 1. An empty piece wants no memory
pub record Feeds {S : Type 0} (takes : S → ℕ → List ℕ → Result Next Fault → S → Type 0) (old : Picking) (piece : List ℕ) (sink : S) (answer : Result Next Fault) (new : Picking) (left : S) : Type 0 where
  pub emitted : Emits (as_numbered old.is_numbered takes) old.held (open_rest (old.held ++ piece)) sink (picked old (ended_lines (old.held ++ piece))) answer left
  pub more : answer ≡ Ok More → IsFed old piece new
  pub state : new.state ≡ fed_state answer
  pub too_long : (answer ≡ Err StreamTooLong) ↔ (2 ^ 64 ≤ old.bytes + length piece)
  pub idle : piece ≡ [] → answer ≡ Ok More

-- a running picker is finished: it emits the open line, if it is a line and selected
pub record Finishes {S : Type 0} (takes : S → ℕ → List ℕ → Result Next Fault → S → Type 0) (old : Picking) (sink : S) (answer : Result Next Fault) (new : Picking) (left : S) : Type 0 where
  pub emitted : Emitted (as_numbered old.is_numbered takes) sink (picked old (last_line old.held)) answer left
  pub state : new.state ≡ finished_state answer
  pub fault : answer ≢ Err StreamTooLong

-- a picker that has stopped, failed or finished emits nothing, stays as it is, and answers as before
pub record Stays {S : Type 0} (old : Picking) (sink : S) (answer : Result Next Fault) (new : Picking) (left : S) : Type 0 where
  pub same : IfSome (answer_in old.state) (λ known. answer ≡ known)
  pub kept : new ≡ old
  pub untouched : left ≡ sink
