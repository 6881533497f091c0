use Rattle.std.proofs.Common.{◌<◌}
use Rattle.factor_search.specs.declared.grouping.TheConstants.{BUCKETS}
use Rattle.factor_search.proofs.grouping.best_bucket.Given as goal

-- the best so far is a bucket
abbrev pub invariant-loop-bucket : goal.invariant-loop-bucket
invariant-loop-bucket l = l.best.0 < BUCKETS
