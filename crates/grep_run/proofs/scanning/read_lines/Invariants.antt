use Rattle.std.proofs.Common.{◌≡◌, ℕ, ◌<◌, Bool, List, [], Some, length}
use Rattle.byte_io.specs.Sources.{Content, coming_of}
use Rattle.grep_run.specs.declared.options.GrepOptions.{GrepOptions}
use Rattle.grep_run.specs.Scanning.{StandsAfter}
use Rattle.grep_run.specs.Writers.{Writer, writer}
use Rattle.grep_run.proofs.ScanLemmas.{ReadSoFar}
use Rattle.grep_run.proofs.scanning.read_lines.Given as goal

-- the bytes so far are dealt with, and no write and no read failed
abbrev pub invariant-loop-turn : goal.invariant-loop-turn
invariant-loop-turn g l = record {
  reading : (o : GrepOptions) (test : List ℕ → Bool) (name : List ℕ) (c : Content) (before : Writer) → StandsAfter o test name [] l.fn.picker l.fn.block before (writer g.W.ByteOut.written g.W.ByteOut.has_failed l.fn.out)
      → g.I.ByteIn.coming l.fn.input ≡ Some (coming_of c) → ReadSoFar o test name c (g.I.ByteIn.coming l.input) l.picker l.block l.turn before (writer g.W.ByteOut.written g.W.ByteOut.has_failed l.out);
  room : 0 < length l.piece;
  plan : l.picker.plan ≡ l.fn.picker.plan;
  flag : g.W.ByteOut.has_failed l.out ≡ g.W.ByteOut.has_failed l.fn.out;
  unread : g.I.ByteIn.has_failed l.input ≡ g.I.ByteIn.has_failed l.fn.input;
}
