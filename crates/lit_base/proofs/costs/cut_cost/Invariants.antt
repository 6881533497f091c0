use Rattle.std.proofs.Common.{◌≤◌, ◌*◌, ◌^◌, length}
use Rattle.lit_base.specs.Literals.{lengths}
use Rattle.lit_base.specs.Costs.{run_cost}
use Rattle.lit_base.proofs.Cuts.{CutSoFar}
use Rattle.lit_base.proofs.costs.cut_cost.Given as goal

abbrev pub invariant-loop-end : goal.invariant-loop-end
invariant-loop-end l =
    CutSoFar (run_cost (lengths l.list)) (length l.list.texts) l.ends.items l.end-index l.start l.price × (l.price ≤ l.end-index * 2 ^ 40)
