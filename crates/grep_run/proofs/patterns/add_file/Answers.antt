-- Facts on the content that was read hold of the opener's known source.
use Rattle.byte_io.specs.Sources.{Named}
use Rattle.byte_io.proofs.OpenerLemmas.{opened}
use Rattle.grep_run.specs.Gathering.{TakesFile}
use Rattle.grep_run.proofs.patterns.add_file.Goals as goal

pub returns-in-Ok-clause-answer : goal.returns-in-Ok-clause-answer
returns-in-Ok-clause-answer g c =
    opened _ c.in-Ok.input _ _ (Named c.args.name.now) (λ source. TakesFile c.args.name.now c.args.patterns.now c.add_content.new.patterns source c.add_content.result)
    c.in-Ok.ensures.takes c.in-Ok.ensures.gives c.add_content.ensures.answer
