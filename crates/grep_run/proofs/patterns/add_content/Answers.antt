-- Lines hold no newline.
use Rattle.grep_run.proofs.PieceLemmas.{lines-after}
use Rattle.grep_run.proofs.patterns.add_content.Goals as goal

pub returns-in-Ok-clause-apart : goal.returns-in-Ok-clause-apart
returns-in-Ok-clause-apart g c = λ all. lines-after c.args.patterns.now c.add_file_bytes.new.self c.as_slice.result.now all c.in_ok-add_file_bytes-in-Ok.ensures.ok
