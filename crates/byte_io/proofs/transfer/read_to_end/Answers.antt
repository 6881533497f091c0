-- The bytes read before the last turn and in it, and that each turn read at least one byte.
use Rattle.std.proofs.Common.{arith}
use Rattle.byte_io.proofs.TransferLemmas.{ReadsInto-more, ReadsInto-many}
use Rattle.byte_io.proofs.transfer.read_to_end.Goals as goal

pub returns-in_err-count-clause-bytes : goal.returns-in_err-count-clause-bytes
returns-in_err-count-clause-bytes g c = ReadsInto-more _ c.loop-turn.invariant.bytes c.read_chunk.ensures.bytes

pub returns-clause-failed : goal.returns-clause-failed
returns-clause-failed g c =
    λ _. ReadsInto-many _ _ _ _ _ _ c.loop-turn.invariant.bytes (omega (arith, c.loop-turn.invariant.turns, c.loop-turn.text.ok, c.args.text.now.ok))
