use Rattle.std.proofs.Common.{◌<◌}
use Rattle.factor_search.proofs.counts.Counts.rarest.Given as goal

-- the best so far is an offset
abbrev pub invariant-loop-offset : goal.invariant-loop-offset
invariant-loop-offset l = l.best < 8
