-- The lanes above the highest bit that is set are no newlines, and that lane is one.
use Rattle.text_lines.proofs.LastNewline.{last-apart, last-found}
use Rattle.text_lines.proofs.counting.bytes_after_newline.Goals as goal

pub returns-clause-apart : goal.returns-clause-apart
returns-clause-apart c = last-apart c.args.text.now c.load.result _ c.requires.long c.newline_bits.ensures c.load.ensures.value

pub returns-clause-found : goal.returns-clause-found
returns-clause-found c some = last-found c.args.text.now c.load.result _ c.requires.long c.newline_bits.ensures c.load.ensures.value some
