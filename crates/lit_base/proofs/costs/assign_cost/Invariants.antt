use Rattle.std.proofs.Common.{◌≤◌, ◌*◌, ◌^◌}
use Rattle.lit_base.specs.Literals.{lengths}
use Rattle.lit_base.specs.Costs.{group_cost}
use Rattle.lit_base.specs.Assignments.{bucket}
use Rattle.lit_base.specs.Profiles.{buckets}
use Rattle.lit_base.proofs.BucketLemmas.{PriceSoFar}
use Rattle.lit_base.proofs.costs.assign_cost.Given as goal

abbrev pub invariant-loop-number : goal.invariant-loop-number
invariant-loop-number l =
    PriceSoFar (λ b. group_cost (bucket b (lengths l.list) l.numbers)) (buckets l.fn.profile) l.number l.price × (l.price ≤ l.number * 2 ^ 40)
