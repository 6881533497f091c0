-- Facts on the content that was read hold of the files' known source.
use Rattle.byte_io.specs.Sources.{ask_of}
use Rattle.byte_io.proofs.OpenerLemmas.{opened}
use Rattle.plan_pack.specs.Taken.{TakesText}
use Rattle.plan_pack.proofs.ListLemmas.{opened-before-memory}
use Rattle.plan_pack.proofs.reading.text_of.Goals as goal

pub returns-in-Ok-clause-text : goal.returns-in-Ok-clause-text
returns-in-Ok-clause-text g c =
    opened _ c.in-Ok.input _ _ (ask_of c.args.operand.now) (λ source. TakesText c.args.operand.now source c.text_from.result)
    c.in-Ok.ensures.takes c.in-Ok.ensures.gives c.text_from.ensures.text

pub returns-in-Ok-clause-starved : goal.returns-in-Ok-clause-starved
returns-in-Ok-clause-starved g c = opened-before-memory _ c.in-Ok.input (g.F.Opener.sources c.args.files.now) (ask_of c.args.operand.now) c.text_from.result c.in-Ok.ensures.gives
