use Rattle.std.proofs.Common.{◌≡◌, ◌++◌, take}
use Rattle.std.specs.Int.{w16}
use Rattle.plan_file.specs.Spelling.{numbers_text}
use Rattle.plan_file.proofs.encoding.push_ends.Given as goal

abbrev pub invariant-loop-end : goal.invariant-loop-end
invariant-loop-end l = l.out.items ≡ l.fn.out.items ++ numbers_text w16 (take l.end-index l.ends)
