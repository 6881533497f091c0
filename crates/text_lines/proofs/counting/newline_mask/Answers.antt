-- The lanes are the first 64 bytes.
use Rattle.std.proofs.Common.{arith}
use Rattle.text_lines.proofs.NewlineMasks.{first-newlines}
use Rattle.text_lines.proofs.counting.newline_mask.Goals as goal

pub returns : goal.returns
returns c = first-newlines c.args.text.now c.load.result c.newline_bits.result (omega arith) c.newline_bits.ensures c.load.ensures.value
