-- After the last position there is no bit.
use Rattle.std.proofs.Common.{arith}
use Rattle.std.proofs.lemmas.Nat.Bits.{bit_at-zero, bit_at_above}
use Rattle.shift_search.proofs.probes.bits_after.Goals as goal

pub returns-then-ahead-eq7 : goal.returns-then-ahead-eq7
returns-then-ahead-eq7 c = λ k. (
  λ set. absurd (omega (arith, set, bit_at-zero k)),
  λ both. absurd (omega (arith, both.1, bit_at_above c.args.bits 64 k (omega (arith, c.ranges.bits.fits)) (omega (arith, both.0, c.if-ahead-eq7.true)))),
)
