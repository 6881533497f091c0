use Rattle.std.proofs.Common.{◌≡◌, drop}
use Rattle.scan_wire.specs.Messages.{texts_of}
use Rattle.scan_core.specs.Refusals.{first_refusal}
use Rattle.scan_core.proofs.refusal.first_refused.Given as goal

-- none of the literals so far is refused
abbrev pub invariant-loop-literal : goal.invariant-loop-literal
invariant-loop-literal l = record {
  place : l.place ≡ l.literal-index;
  rest : first_refusal 0 (texts_of l.literals) ≡ first_refusal l.literal-index (texts_of (drop l.literal-index l.literals));
}
