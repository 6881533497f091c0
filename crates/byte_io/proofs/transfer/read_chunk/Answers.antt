-- After the text there is room, which a read fills from its start.
use Rattle.std.proofs.Common.{◌≡◌, take, arith}
use Rattle.std.proofs.lemmas.Grind.{common_steps}
use Rattle.byte_io.proofs.TransferLemmas.{ReadsInto-read, ReadsInto-failed}
use Rattle.byte_io.proofs.transfer.read_chunk.Goals as goal

pub overflow_add-start : goal.overflow_add-start
overflow_add-start g c = omega (arith, c.args.text.now.small, c.args.text.now.ok)

pub returns-in-Ok-clause-bytes : goal.returns-in-Ok-clause-bytes
returns-in-Ok-clause-bytes g c =
    let prefix : take c.len-start.result c.deref_mut.result.now ≡ c.args.text.now.items = grind (arith, common_steps) in
    ReadsInto-read _ _ _ _ c.read_some.new.buf _ _ _ _ _ _ c.in-Ok.ensures.bytes c.truncate.ensures.items
    (omega (arith, c.args.text.now.ok)) prefix c.in-Ok.ensures.within (grind (arith, common_steps))

pub returns-in-Err-clause-bytes : goal.returns-in-Err-clause-bytes
returns-in-Err-clause-bytes g c =
    let prefix : take c.len-start.result c.deref_mut.result.now ≡ c.args.text.now.items = grind (arith, common_steps) in
    ReadsInto-failed _ _ _ _ c.read_some.new.buf _ _ _ _ _ _ c.in-Err.ensures.bytes c.truncate-in-Err.ensures.items
    (omega (arith, c.args.text.now.ok)) prefix (grind (arith, common_steps))
