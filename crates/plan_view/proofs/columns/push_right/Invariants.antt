use Rattle.std.proofs.Common.{◌≡◌, ◌-◌, ◌≤◌, ◌++◌, length, replicate}
use Rattle.plan_view.proofs.columns.push_right.Given as goal

-- a number of spaces was appended, and no more than are due
abbrev pub invariant-loop : goal.invariant-loop
invariant-loop l = record {
  text : l.text.items ≡ l.fn.text.items ++ replicate (l.counter - length l.shown) 32;
  from : length l.shown ≤ l.counter;
  due : l.counter - length l.shown ≤ l.width - length l.shown;
}
