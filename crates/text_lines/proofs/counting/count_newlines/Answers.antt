-- The stretches, what lies after them, and the last bytes.
use Rattle.std.proofs.Common.{◌≡◌, ◌-◌, eqb, count_by, length, drop, ap, ◌∙◌, arith}
use Rattle.text_lines.proofs.Counts.{count_by-parts}
use Rattle.text_lines.proofs.counting.count_newlines.Goals as goal

pub returns : goal.returns
returns c =
    let end = c.newlines_after-end.result.1 in
    let size : length c.args.text.now - (length c.args.text.now - end) ≡ end = omega (arith, c.newlines_after-end.ensures.within) in
    let rest = c.count_last.ensures ∙ ap (λ k. count_by (λ b. eqb b 10) (drop k c.args.text.now)) size in
    omega (arith, c.count_stretches-count.ensures.count, c.newlines_after-end.ensures.count, c.sum_of.ensures, rest, count_by-parts (λ b. eqb b 10) c.args.text.now end)
