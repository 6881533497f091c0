-- Replies with the hits of a piece.
use Rattle.std.specs.Prelude.{◌≡◌, ℕ, List, map, ◌++◌}
use Rattle.scan_wire.specs.Messages.{Hits}
use Rattle.scan_wire.specs.declared.message.Reply.{Reply}
use Rattle.scan_wire.specs.declared.message.TheConstants.{MAX_HITS}
use Rattle.scan_core.specs.Blocks.{AreBlocks}
use Rattle.scan_core.specs.Sessions.{replies_of}
use Rattle.scan_core.specs.Steps.{fed_replies}

-- a list of replies has gained some, at its end
abbrev pub Extends : List Reply → List Reply → Type 0
Extends old new = (more : List Reply) × (new ≡ old ++ more)

-- it has gained hits in blocks
pub record RepliesBlocks (stream : ℕ) (hits : List (ℕ × ℕ)) (old new : List Reply) : Type 0 where
  pub blocks : List (List (ℕ × ℕ))
  pub cut : AreBlocks MAX_HITS hits blocks
  pub grown : replies_of new ≡ replies_of old ++ map (Hits stream) blocks

-- it has gained hits in blocks, and the place reached
pub record RepliesHits (stream : ℕ) (hits : List (ℕ × ℕ)) (place : ℕ) (old new : List Reply) : Type 0 where
  pub blocks : List (List (ℕ × ℕ))
  pub cut : AreBlocks MAX_HITS hits blocks
  pub grown : replies_of new ≡ replies_of old ++ fed_replies stream blocks place
