use Rattle.std.proofs.Common.{◌≡◌, ◌++◌, take}
use Rattle.std.specs.List.{flat_map}
use Rattle.plan_view.specs.Drawings.{legend_line}
use Rattle.plan_view.proofs.drawing.push_legend.Given as goal

-- the lines so far were appended
abbrev pub invariant-loop-bucket : goal.invariant-loop-bucket
invariant-loop-bucket l = l.text.items ≡ l.fn.text.items ++ flat_map (legend_line l.view.list.now l.view.ends.now.items) (take l.bucket-index l.view.buckets.now)
