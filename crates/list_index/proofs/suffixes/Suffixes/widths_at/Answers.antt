-- All widths where the checks cannot be read, and otherwise the widths that they give.
use Rattle.std.proofs.Common.{◌-◌, arith}
use Rattle.std.proofs.lemmas.Nat.Bits.{bit_at_ones}
use Rattle.list_index.specs.Chains.{key_width_at}
use Rattle.list_index.proofs.suffixes.Suffixes.widths_at.Goals as goal

pub returns-then-end-lt8 : goal.returns-then-end-lt8
returns-then-end-lt8 c l is place low occurs = bit_at_ones 8 (key_width_at l place - 1) (omega arith)
