use Rattle.std.proofs.Common.{◌≡◌, ◌≤◌, ◌*◌, ◌+◌, ◌^◌}
use Rattle.lit_base.specs.Literals.{lengths}
use Rattle.plan_view.specs.Sums.{sum_below}
use Rattle.plan_view.specs.Texts.{part_cost, part_start}
use Rattle.plan_view.proofs.sums.even_parts.Given as goal

-- the parts so far were added up
abbrev pub invariant-loop-k : goal.invariant-loop-k
invariant-loop-k l = record {
  sum : l.sum ≡ sum_below l.k (λ k. part_cost (lengths l.list) (part_start l.profile l.count k) (part_start l.profile l.count (k + 1)));
  bound : l.sum ≤ l.k * 2 ^ 40;
}
