-- No text is refused for the number of its literals, and none that memory ran out for.
use Rattle.lit_base.specs.Lines.{lines}
use Rattle.fiolargu.proofs.RefusalLemmas.{text_fails, text_starved}
use Rattle.fiolargu.proofs.making.lines_of.Goals as goal

pub returns-in-Err-clause-few : goal.returns-in-Err-clause-few
returns-in-Err-clause-few c = text_fails _ _ c.args.text.now (lines c.args.text.now) _ c.in-Err.ensures.refused

pub returns-in-Err-clause-starved : goal.returns-in-Err-clause-starved
returns-in-Err-clause-starved c = rw c.new-raw.ensures at (text_starved _ _ c.args.text.now (lines c.args.text.now) _ c.in-Err.ensures.refused)
