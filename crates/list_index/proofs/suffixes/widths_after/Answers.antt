-- Only the bit of that length is cleared.
use Rattle.std.proofs.Common.{◌≢◌, ◌-◌, w8, ◌∙◌, arith}
use Rattle.std.proofs.lemmas.Nat.Bits.{bit_at_clear_other}
use Rattle.list_index.proofs.suffixes.widths_after.Goals as goal

pub returns-then-len-lt8 : goal.returns-then-len-lt8
returns-then-len-lt8 c = λ width some narrow widest has.
    let other : width - 1 ≢ c.args.len - 1 = λ same. omega (arith, same, c.requires, c.if-len-lt8.true, widest (omega (arith, same, c.requires))) in
    bit_at_clear_other w8 c.args.widths (c.args.len - 1) (omega (arith, c.if-len-lt8.true)) (width - 1) (omega arith) other ∙ has
