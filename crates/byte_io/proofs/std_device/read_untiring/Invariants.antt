-- Tries that a signal interrupted took nothing from the reader, and left the buffer its length.
use Rattle.std.specs.Io.KnownBytes.{Keeps}
use Rattle.byte_io.proofs.std_device.read_untiring.Given as goal

abbrev pub invariant-loop : goal.invariant-loop
invariant-loop g l = Keeps (g.R.Read.remaining l.initial.reader) (g.R.Read.remaining l.reader)
