use Rattle.std.proofs.Common.{All, map, string_bytes, drop}
use Rattle.byte_io.specs.Devices.{IfKnown}
use Rattle.byte_io.specs.Sources.{AreShort}
use Rattle.lit_base.specs.Lines.{IsOnePiece}
use Rattle.grep_run.specs.Options.{asks_for}
use Rattle.grep_run.proofs.GatherLemmas.{FilesSoFar}
use Rattle.grep_run.proofs.patterns.add_files.Given as goal

-- the files so far are read, and gave no pattern with a newline
abbrev pub invariant-loop-file : goal.invariant-loop-file
invariant-loop-file g l = record {
  apart : All IsOnePiece l.fn.patterns → All IsOnePiece l.patterns;
  files : IfKnown (g.O.Opener.sources l.fn.opener) (g.O.Opener.sources l.opener) (λ s left. AreShort s
      → FilesSoFar l.fn.patterns l.patterns (asks_for (map string_bytes l.files)) (asks_for (map string_bytes (drop l.file-index l.files))) s left);
}
