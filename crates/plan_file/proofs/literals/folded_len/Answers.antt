use Rattle.std.proofs.Common.{◌∙◌, arith}
use Rattle.plan_file.proofs.LiteralLemmas.{all_folded, unfolded_at}
use Rattle.plan_file.proofs.literals.folded_len.Goals as goal

pub returns-then-fold_byte-byte : goal.returns-then-fold_byte-byte
returns-then-fold_byte-byte c =
    unfolded_at c.args.fold c.args.text.now c.loop-place.place (omega arith) c.loop-place.invariant (λ e. c.if-fold_byte-byte.true (c.fold_byte.ensures ∙ e))

pub returns : goal.returns
returns c = all_folded c.args.fold c.args.text.now (λ k lt. c.loop-place.invariant k (omega (arith, lt)))
