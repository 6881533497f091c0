use Rattle.std.proofs.Common.{◌≡◌, ◌++◌, take}
use Rattle.plan_view.specs.Columns.{columns}
use Rattle.plan_view.proofs.columns.push_columns.Given as goal

-- the columns so far were appended
abbrev pub invariant-loop-width : goal.invariant-loop-width
invariant-loop-width l = l.text.items ≡ l.fn.text.items ++ columns (take l.width-index l.numbers)
