-- The lanes before the lowest bit that is set are no newlines, and that lane is one.
use Rattle.text_lines.proofs.Counts.{first-lead}
use Rattle.text_lines.proofs.Newlines.{lead-one, lead-stops}
use Rattle.text_lines.proofs.counting.first_newline.Goals as goal

pub returns-clause-apart : goal.returns-clause-apart
returns-clause-apart c = lead-one c.args.text.now _ c.requires (first-lead c.args.text.now c.newline_bits.ensures c.load.ensures.len c.load.ensures.value)

pub returns-clause-found : goal.returns-clause-found
returns-clause-found c few = lead-stops c.args.text.now _ c.requires (first-lead c.args.text.now c.newline_bits.ensures c.load.ensures.len c.load.ensures.value) few
