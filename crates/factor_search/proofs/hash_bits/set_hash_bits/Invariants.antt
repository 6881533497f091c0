use Rattle.factor_search.specs.Factors.{AreFactorBits}
use Rattle.factor_search.proofs.hash_bits.set_hash_bits.Given as goal

-- the literals passed are marked, and nothing else is
abbrev pub invariant-loop-place : goal.invariant-loop-place
invariant-loop-place l = AreFactorBits l.list l.offsets.items l.hash_bits.items l.place
