-- The remaining bits belong to the last bytes.
use Rattle.std.proofs.Common.{eqb, ap, ◌∙◌, ◌/◌, ◌^◌, ◌-◌}
use Rattle.std.specs.Int.RustNames.{count_ones}
use Rattle.text_lines.proofs.Counts.{ones-last}
use Rattle.text_lines.proofs.counting.count_last.Goals as goal

pub returns : goal.returns
returns c =
    ap (λ n. count_ones (n / 2 ^ (64 - 1 - c.args.left) / 2 ^ 1)) c.newline_bits-bits.ensures
    ∙ ones-last (λ b. eqb b 10) c.args.text.now c.load.result c.args.left c.requires.long c.requires.few c.load.ensures.value
