use Rattle.std.proofs.Common.{◌≡◌, ℕ, ◌+◌, ◌<◌}
use Rattle.std.specs.Int.{bit_at}
use Rattle.lit_base.specs.Occurrences.{HasEnd}
use Rattle.factor_search.proofs.factor_ends.Pending.first_end.Given as goal

-- where a literal ends, a bit remains
abbrev pub invariant-loop-rest : goal.invariant-loop-rest
invariant-loop-rest l = (other : ℕ) → other < l.self.count → HasEnd l.factors.literals l.text (l.self.seen + 1 + other) → bit_at l.rest other ≡ 1

abbrev pub decreases-loop-rest : goal.decreases-loop-rest
decreases-loop-rest l = l.rest
