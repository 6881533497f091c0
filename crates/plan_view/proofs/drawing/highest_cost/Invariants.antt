use Rattle.std.proofs.Common.{◌≡◌, ◌<◌, drop}
use Rattle.lit_base.specs.Literals.{lengths}
use Rattle.plan_view.specs.Drawings.{highest_cost}
use Rattle.plan_view.proofs.drawing.highest_cost.Given as goal

-- with the costs of the buckets to come, it is the highest of all
abbrev pub invariant-loop-bucket : goal.invariant-loop-bucket
invariant-loop-bucket l = record {
  value : highest_cost (lengths l.view.list.now) 1 l.view.buckets.now ≡ highest_cost (lengths l.view.list.now) l.highest (drop l.bucket-index l.view.buckets.now);
  positive : 0 < l.highest;
}
