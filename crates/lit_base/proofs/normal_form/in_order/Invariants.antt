-- The list so far and the remaining keys are all keys.
use Rattle.std.proofs.Common.{◌≡◌, ◌++◌}
use Rattle.lit_base.proofs.normal_form.in_order.Given as goal

abbrev pub invariant-loop-literal : goal.invariant-loop-literal
invariant-loop-literal l = l.list.items ++ l.literal-iterator ≡ l.fn.literals.keys
