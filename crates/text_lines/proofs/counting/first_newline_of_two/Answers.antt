-- Where the first half has no newline, the text goes on without one in the second.
use Rattle.std.proofs.Common.{arith}
use Rattle.text_lines.proofs.Newlines.{one-further}
use Rattle.text_lines.proofs.counting.first_newline_of_two.Goals as goal

pub returns-else-near-lt-LANES-clause-apart : goal.returns-else-near-lt-LANES-clause-apart
returns-else-near-lt-LANES-clause-apart c =
    one-further c.args.text.now c.split_at.result.1.now c.first_newline-near.result c.first_newline-far.result (omega arith) c.split_at.ensures.back c.first_newline-near.ensures.apart c.first_newline-far.ensures.apart
