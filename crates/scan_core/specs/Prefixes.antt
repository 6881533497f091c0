-- A Feed that is answered prefix by prefix.
use Rattle.std.specs.Prelude.{◌≡◌, ℕ, ◌+◌, ◌^◌, ◌<◌, ◌≤◌, List, length, take, Some}
use Rattle.std.specs.Prelude.{nat_eq}
use Rattle.std.specs.Map.{set_value}
use Rattle.flow_scan.specs.Scanners.{Scanning, fed}
use Rattle.flow_scan.specs.Tails.{AreAdded, StopsIn}
use Rattle.lit_plan.specs.Bounds.{HasBounds, carry_of}
use Rattle.scan_core.specs.Sessions.{Bound, Serving, parts_of}
use Rattle.scan_core.specs.Steps.{stream_at}

-- a scan keeps no more bytes than its plan asks for
pub record IsKept (scan : Scanning) : Type 0 where
  pub bounds : HasBounds scan.plan.literals
  pub short : length scan.tail ≤ carry_of scan.plan.literals

-- a stream is open, and after a piece its place is so far, and fits
pub record MayFeed (s : Serving) (stream : ℕ) (piece : List ℕ) (place : ℕ) : Type 0 where
  pub state : Bound
  pub here : stream_at stream (parts_of s) ≡ Some state
  pub kept : IsKept state.scan
  pub reached : place ≡ state.scan.place + length piece
  pub fits : place < 2 ^ 64

-- a stream after a prefix of a piece, up to where `most` hits were gained
pub record MovesUpTo (old : ℕ × Bound) (piece : List ℕ) (most count : ℕ) (before after : List (ℕ × ℕ)) (new : ℕ × Bound) : Type 0 where
  pub state : new ≡ (old.0, record old.1 { scan = fed old.1.scan (take count piece) })
  pub stops : StopsIn old.1.scan.plan.literals old.1.scan.tail piece old.1.scan.place most count before after

-- the session in which a stream has been fed some bytes since it was in a state
abbrev pub fed_by : Serving → ℕ → Bound → List ℕ → Serving
fed_by s stream state bytes = record s { streams = set_value (nat_eq stream) s.streams (record state { scan = fed state.scan bytes }) }

-- a session was fed a prefix of a piece, and a list has gained its hits
pub record FeedsPrefix (before : Serving) (stream : ℕ) (piece : List ℕ) (most count : ℕ) (old new : List (ℕ × ℕ)) (after : Serving) : Type 0 where
  pub state : Bound
  pub here : stream_at stream (parts_of before) ≡ Some state
  pub stops : StopsIn state.scan.plan.literals state.scan.tail piece state.scan.place most count old new
  pub is : after ≡ fed_by before stream state (take count piece)

-- a stream was fed some bytes since a session, and these are their hits
pub record IsFeeding (before : Serving) (stream : ℕ) (bytes : List ℕ) (hits : List (ℕ × ℕ)) (after : Serving) : Type 0 where
  pub state : Bound
  pub here : stream_at stream (parts_of before) ≡ Some state
  pub kept : IsKept state.scan
  pub added : AreAdded state.scan.plan.literals state.scan.tail bytes state.scan.place hits
  pub is : after ≡ fed_by before stream state bytes
