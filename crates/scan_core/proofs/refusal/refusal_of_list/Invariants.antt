use Rattle.std.proofs.Common.{◌≡◌, ◌+◌, drop, length}
use Rattle.std.specs.Prelude.{sum_by}
use Rattle.lit_base.specs.declared.limits.TheConstants.{MAX_LIST_LEN}
use Rattle.scan_wire.specs.Messages.{texts_of}
use Rattle.scan_core.proofs.refusal.refusal_of_list.Given as goal

-- the literals so far have as many bytes as are no longer left
abbrev pub invariant-loop-literal : goal.invariant-loop-literal
invariant-loop-literal l = l.left + sum_by length (texts_of l.literals) ≡ MAX_LIST_LEN + sum_by length (texts_of (drop l.literal-index l.literals))
