use Rattle.std.proofs.Common.{◌≡◌, ◌++◌, take}
use Rattle.std.specs.Int.{w64}
use Rattle.plan_file.specs.Spelling.{numbers_text}
use Rattle.plan_file.proofs.encoding.push_potentials.Given as goal

abbrev pub invariant-loop-potential : goal.invariant-loop-potential
invariant-loop-potential l = l.out.items ≡ l.fn.out.items ++ numbers_text w64 (take l.potential-index l.potentials)
