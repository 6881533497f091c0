-- A Feed that is answered as its hits are found.
use Rattle.std.specs.Prelude.{◌≡◌, ℕ, ◌+◌, ◌-◌, ◌<◌, ◌≤◌, List, [], ◌∷◌, ◌++◌, length, map, Option, ◌⊎◌}
use Rattle.scan_wire.specs.Frames.{replies_text}
use Rattle.scan_wire.specs.Messages.{Hits}
use Rattle.scan_wire.specs.declared.message.TheConstants.{MAX_HITS}
use Rattle.scan_serve.specs.Sending.{Sends, SendsPrefix}
use Rattle.scan_core.specs.Blocks.{AreFull, joined}
use Rattle.scan_core.specs.Prefixes.{FeedsPrefix, IsFeeding}
use Rattle.scan_core.specs.Sessions.{Serving}

-- the block of the remaining hits, if there are any
abbrev pub last_block : List (ℕ × ℕ) → List (List (ℕ × ℕ))
last_block [] = []
last_block (hit ∷ hits) = (hit ∷ hits) ∷ []

-- the first hits of a list were sent in full replies
pub record SendsFull (stream : ℕ) (old new : List (ℕ × ℕ)) (written_old written_new : Option (List ℕ)) (before after : List ℕ) : Type 0 where
  pub blocks : List (List (ℕ × ℕ))
  pub full : AreFull MAX_HITS blocks
  pub cut : old ≡ joined blocks ++ new
  pub sent : Sends written_old written_new before after (replies_text (map (Hits stream) blocks))

-- the first hits of a list are sent in full replies, and a prefix of the replies is written
pub record SendsFullPrefix (stream : ℕ) (old : List (ℕ × ℕ)) (written_old written_new : Option (List ℕ)) (before : List ℕ) : Type 0 where
  pub blocks : List (List (ℕ × ℕ))
  pub left : List (ℕ × ℕ)
  pub full : AreFull MAX_HITS blocks
  pub cut : old ≡ joined blocks ++ left
  pub sent : SendsPrefix written_old written_new before (replies_text (map (Hits stream) blocks))

-- A prefix of a piece was fed, no longer than it takes to gain a full reply's hits with the earlier hits; so no more
-- than these and one a literal are held. The first of them were sent in full replies.
pub record FeedsOn (before : Serving) (stream : ℕ) (piece : List ℕ) (count : ℕ) (old new : List (ℕ × ℕ)) (after : Serving) (written_old written_new : Option (List ℕ)) (waits_old waits_new : List ℕ) : Type 0 where
  pub gained : List (ℕ × ℕ)
  pub fed : FeedsPrefix before stream piece (MAX_HITS - length old) count old gained after
  pub held : length gained ≤ MAX_HITS + length fed.state.scan.plan.literals.texts
  pub few : length new < MAX_HITS
  pub sent_full : SendsFull stream gained new written_old written_new waits_old waits_new

-- Feeding a prefix of a piece stopped: nothing was fed, or the first of the earlier and the gained hits are sent in
-- full replies, and a prefix of the replies is written.
abbrev pub StopsFeeding : Serving → ℕ → List ℕ → List (ℕ × ℕ) → Option (List ℕ) → Option (List ℕ) → List ℕ → Type 0
StopsFeeding before stream piece old written_old written_new waits =
    SendsPrefix written_old written_new waits []
    ⊎ ((count : ℕ) × (gained : List (ℕ × ℕ)) × (after : Serving) × FeedsPrefix before stream piece (MAX_HITS - length old) count old gained after
    × SendsFullPrefix stream gained written_old written_new waits)

-- a piece was fed up to a rest: its hits so far were sent in full replies, except the remaining hits
pub record HasFed (before : Serving) (stream : ℕ) (piece rest : List ℕ) (hits : List (ℕ × ℕ)) (after : Serving) (written_old written_new : Option (List ℕ)) (waits_old waits_new : List ℕ) : Type 0 where
  pub bytes : List ℕ
  pub blocks : List (List (ℕ × ℕ))
  pub text_is : piece ≡ bytes ++ rest
  pub few : length hits < MAX_HITS
  pub full : AreFull MAX_HITS blocks
  pub feeding : IsFeeding before stream bytes (joined blocks ++ hits) after
  pub sent : Sends written_old written_new waits_old waits_new (replies_text (map (Hits stream) blocks))
