-- One bit is set, and the others stay.
use Rattle.std.proofs.Common.{◌%◌, inl, inr, ap, ◌∙◌, arith, w8}
use Rattle.std.specs.Int.{bit_at}
use Rattle.std.proofs.lemmas.Bool.{cases_eq}
use Rattle.std.proofs.lemmas.Nat.Bits.{bit_at_set_same, bit_at_set_other}
use Rattle.nib_mask.proofs.prefixes.with_bucket.Goals as goal

pub returns-clause-here : goal.returns-clause-here
returns-clause-here c = bit_at_set_same w8 c.args.kept (c.args.bucket % 8) (omega arith)

pub returns-clause-others : goal.returns-clause-others
returns-clause-others c = λ bit set. elim (cases_eq bit (c.args.bucket % 8)) [
  | inl here ↦ ap (bit_at _) here ∙ bit_at_set_same w8 c.args.kept (c.args.bucket % 8) (omega arith)
  | inr apart ↦ bit_at_set_other w8 c.args.kept (c.args.bucket % 8) (omega arith) bit apart ∙ set
]
