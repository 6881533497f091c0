use Rattle.std.proofs.Common.{arith, rules}
use Rattle.scan_wire.proofs.NumberLemmas.{u32_first}
use Rattle.scan_wire.proofs.numbers.first_u32.Goals as goal

pub returns-clause-found : goal.returns-clause-found
returns-clause-found c = (search rules, u32_first c.args.bytes.now c.split_at.result.0.now c.split_at.result.1.now _ c.split_at.ensures.front c.split_at.ensures.back (λ i. omega (arith, c.type_inv.bytes i)) (omega arith) (search rules))
