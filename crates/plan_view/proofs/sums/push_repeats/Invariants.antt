use Rattle.std.proofs.Common.{◌≡◌, ◌++◌, take}
use Rattle.std.specs.List.{flat_map}
use Rattle.plan_view.specs.Texts.{repeat_line}
use Rattle.plan_view.proofs.sums.push_repeats.Given as goal

-- the lines so far were appended
abbrev pub invariant-loop-repeat : goal.invariant-loop-repeat
invariant-loop-repeat l = l.text.items ≡ l.fn.text.items ++ flat_map repeat_line (take l.repeat-index l.found)
