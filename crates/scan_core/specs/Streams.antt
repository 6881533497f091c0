-- Where the stream of a number stands among the open streams, and how a piece moves it on.
use Rattle.std.specs.Prelude.{◌≡◌, ◌≢◌, ℕ, ◌+◌, ◌<◌, ◌^◌, List, length, Some}
use Rattle.std.specs.List.{slice_get}
use Rattle.flow_scan.specs.Scanners.{fed}
use Rattle.flow_scan.specs.Tails.{GainsHits}
use Rattle.scan_core.specs.Sessions.{Bound}

-- the first stream of a number stands at a place
pub record StandsAt {S : Type 0} (number : ℕ) (streams : List (ℕ × S)) (place : ℕ) : Type 0 where
  pub state : S
  pub here : slice_get streams place ≡ Some (number, state)
  pub first : (earlier : ℕ) (other : ℕ × S) → earlier < place → slice_get streams earlier ≡ Some other → other.0 ≢ number

-- a stream after one more piece, whose hits a list has gained
pub record MovesTo (old : ℕ × Bound) (piece : List ℕ) (before after : List (ℕ × ℕ)) (new : ℕ × Bound) : Type 0 where
  pub fits : old.1.scan.place + length piece < 2 ^ 64
  pub state : new ≡ (old.0, record old.1 { scan = fed old.1.scan piece })
  pub hits : GainsHits old.1.scan.plan.literals old.1.scan.tail piece old.1.scan.place before after
