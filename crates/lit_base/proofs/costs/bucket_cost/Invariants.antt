use Rattle.std.proofs.Common.{◌≡◌, ◌≤◌, drop}
use Rattle.lit_base.specs.Literals.{lengths}
use Rattle.lit_base.specs.Costs.{group_cost}
use Rattle.lit_base.specs.Assignments.{bucket}
use Rattle.lit_base.proofs.BucketLemmas.{joined_cost}
use Rattle.lit_base.proofs.costs.bucket_cost.Given as goal

abbrev pub invariant-loop-place : goal.invariant-loop-place
invariant-loop-place l =
    let rest = bucket l.number (drop l.place (lengths l.list)) (drop l.place l.numbers) in
    (joined_cost l.count l.shortest rest ≡ group_cost (bucket l.number (lengths l.list) l.numbers)) × (1 ≤ l.shortest) × (l.count ≡ 0 → l.shortest ≡ 18446744073709551615) × (l.count ≤ l.place)
