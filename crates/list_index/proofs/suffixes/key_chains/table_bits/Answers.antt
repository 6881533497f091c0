-- A power of two that is no more than a few thousand has a small exponent.
use Rattle.std.proofs.Common.{arith, inl, inr, pow_mono}
use Rattle.std.proofs.lemmas.Bool.{cases_lt}
use Rattle.list_index.proofs.suffixes.key_chains.table_bits.Goals as goal

pub returns-clause-few : goal.returns-clause-few
returns-clause-few c = elim (cases_lt 30 c.ilog2.result) [
  | inl large ↦ omega (arith, pow_mono {i = 30} {j = c.ilog2.result} (omega arith), c.ilog2.ensures.power_le)
  | inr small ↦ omega arith
]
