use Rattle.std.proofs.Common.{◌≡◌, ◌++◌, take}
use Rattle.std.specs.List.{flat_map}
use Rattle.plan_view.specs.Rows.{row}
use Rattle.plan_view.proofs.rows.push_rows.Given as goal

-- the rows so far were appended
abbrev pub invariant-loop-bucket : goal.invariant-loop-bucket
invariant-loop-bucket l = l.text.items ≡ l.fn.text.items ++ flat_map (row l.view.list.now l.view.ends.now.items) (take l.bucket-index l.view.buckets.now)
