use Rattle.std.proofs.Common.{◌≡◌, ℕ, List, ◌++◌, length, map}
use Rattle.scan_wire.specs.Messages.{Hits}
use Rattle.scan_wire.specs.declared.message.TheConstants.{MAX_HITS}
use Rattle.scan_core.specs.Answers.{Extends}
use Rattle.scan_core.specs.Blocks.{AreBlocks}
use Rattle.scan_core.specs.Sessions.{replies_of}
use Rattle.scan_core.proofs.answering.push_blocks.Given as goal

-- blocks were added, and with the blocks of the rest they are the blocks of all
abbrev pub invariant-loop-rest : goal.invariant-loop-rest
invariant-loop-rest l =
    (done : List (List (ℕ × ℕ)))
    × (replies_of l.out.items ≡ replies_of l.fn.out.items ++ map (Hits l.stream) done)
    × ((more : List (List (ℕ × ℕ))) → AreBlocks MAX_HITS l.rest more → AreBlocks MAX_HITS l.fn.hits (done ++ more))
    × Extends l.fn.out.items l.out.items

abbrev pub decreases-loop-rest : goal.decreases-loop-rest
decreases-loop-rest l = length l.rest
