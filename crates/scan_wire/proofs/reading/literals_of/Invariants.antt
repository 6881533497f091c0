use Rattle.scan_wire.specs.Messages.{texts_of}
use Rattle.scan_wire.proofs.LiteralLemmas.{SoFar}
use Rattle.scan_wire.proofs.reading.literals_of.Given as goal

abbrev pub invariant-loop : goal.invariant-loop
invariant-loop l = SoFar l.counter l.bytes (texts_of l.literals.items) l.rest
