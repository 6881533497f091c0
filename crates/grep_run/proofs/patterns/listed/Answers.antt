-- Pieces hold no newline.
use Rattle.std.proofs.Common.{arith}
use Rattle.std.proofs.lemmas.Grind.{common_steps}
use Rattle.grep_run.proofs.PieceLemmas.{pieces-after}
use Rattle.grep_run.proofs.patterns.listed.Goals as goal

pub loop-list-preserved : goal.loop-list-preserved
loop-list-preserved c =
    (pieces-after c.loop-list.patterns c.add_text_list.new.self c.as_bytes.result.now c.loop-list.invariant.0 c.in_ok-add_text_list.ensures.ok, grind (arith, common_steps), grind (arith, common_steps))
