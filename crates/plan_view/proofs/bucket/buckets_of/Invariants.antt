use Rattle.std.proofs.Common.{◌≡◌, ◌++◌, drop, length}
use Rattle.plan_view.specs.Buckets.{buckets_from, buckets_of}
use Rattle.plan_view.proofs.bucket.buckets_of.Given as goal

-- with the buckets to come, those so far are all
abbrev pub invariant-loop-end : goal.invariant-loop-end
invariant-loop-end l = record {
  counted : length l.buckets.items ≡ l.end-index;
  made : buckets_of l.ends.items ≡ l.buckets.items ++ buckets_from l.end-index l.start (drop l.end-index l.ends.items);
}
