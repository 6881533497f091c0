-- The pieces are the lines, and a null piece where the text is open, as its last byte shows.
use Rattle.std.proofs.Common.{◌≡◌, ◌++◌, ◌<◌, [], length, true, arith, ap, sym, ◌∙◌}
use Rattle.std.proofs.lemmas.Grind.{common_steps}
use Rattle.lit_base.specs.Lines.{lines}
use Rattle.lit_base.proofs.PieceLemmas.{pieces-lines, is_open, is_open-last, null_if}
use Rattle.lit_base.proofs.patterns.ends_in_null.Goals as goal

pub returns-then-is_empty : goal.returns-then-is_empty
returns-then-is_empty c =
    let text = c.args.text.now in
    let empty : text ≡ [] = grind (arith, common_steps) in
    let yes : c.is_empty.result ≡ true = c.if-is_empty.true in
    pieces-lines text ∙ ap (λ due. lines text ++ null_if due) (ap is_open empty ∙ sym yes)

pub returns-else-is_empty : goal.returns-else-is_empty
returns-else-is_empty c =
    let text = c.args.text.now in
    let some : 0 < length text = grind (arith, common_steps) in
    pieces-lines text ∙ ap (λ due. lines text ++ null_if due) (is_open-last text some)
