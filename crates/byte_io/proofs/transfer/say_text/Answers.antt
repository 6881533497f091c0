use Rattle.byte_io.proofs.SayLemmas.{says, says-or-fails}
use Rattle.byte_io.proofs.transfer.say_text.Goals as goal

pub returns-clause-said : goal.returns-clause-said
returns-clause-said g c = rw c.as_bytes.ensures.value at (says _ (g.W.ByteOut.has_failed c.args.out.now) c.write_all.result _ _ _ c.write_all.ensures.ok c.write_all.ensures.err c.write_all.ensures.flag)

pub returns-clause-exact : goal.returns-clause-exact
returns-clause-exact g c = rw c.as_bytes.ensures.value at (says-or-fails _ (g.W.ByteOut.has_failed c.args.out.now) c.write_all.result _ _ _ c.write_all.ensures.ok c.write_all.ensures.err c.write_all.ensures.flag)
