use Rattle.std.proofs.Common.{◌≡◌, ◌++◌, take}
use Rattle.std.specs.List.{flat_map}
use Rattle.plan_view.specs.Drawings.{drawn}
use Rattle.plan_view.proofs.drawing.push_buckets.Given as goal

-- the buckets so far were appended
abbrev pub invariant-loop-bucket : goal.invariant-loop-bucket
invariant-loop-bucket l = l.text.items ≡ l.fn.text.items ++ flat_map (drawn l.view.list.now l.view.ends.now.items l.highest) (take l.bucket-index l.view.buckets.now)
