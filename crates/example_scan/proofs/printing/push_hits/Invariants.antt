use Rattle.std.proofs.Common.{◌≡◌, ◌++◌, take}
use Rattle.example_scan.specs.Lines.{hit_lines}
use Rattle.example_scan.proofs.printing.push_hits.Given as goal

-- the lines of the hits so far were appended
abbrev pub invariant-loop-hit : goal.invariant-loop-hit
invariant-loop-hit l = l.text.items ≡ l.fn.text.items ++ hit_lines l.plan.literals l.lines (take l.hit-index l.hits)
