use Rattle.std.proofs.Common.{◌≡◌, ◌+◌, ◌++◌, drop, string_bytes}
use Rattle.scan_run.specs.Reports.{lines_from}
use Rattle.scan_run.proofs.report.lines.Given as goal

-- the text and the lines of the others are all lines
abbrev pub invariant-loop-ended : goal.invariant-loop-ended
invariant-loop-ended l = (l.number ≡ l.ended-index + 1) × (string_bytes l.text ++ lines_from l.number (drop l.ended-index l.endings) ≡ lines_from 1 l.endings)
