use Rattle.std.proofs.Common.{◌≡◌, take}
use Rattle.scan_wire.specs.Messages.{texts_of}
use Rattle.scan_core.proofs.publishing.raw_of.Given as goal

-- the list has the literals so far
abbrev pub invariant-loop-literal : goal.invariant-loop-literal
invariant-loop-literal l = l.raw ≡ texts_of (take l.literal-index l.literals)
