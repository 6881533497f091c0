-- The patterns so far and those of the lines left are those of the text, and so is the first refusal.
use Rattle.std.proofs.Common.{◌≡◌, ◌++◌, length, map, sum_by}
use Rattle.lit_base.specs.Lines.{lines}
use Rattle.lit_base.specs.LinesLeft.{lines_left}
use Rattle.plan_pack.specs.Notations.{hex_pattern, hex_refusal}
use Rattle.plan_pack.proofs.patterns.hex_lines_of.Given as goal

abbrev pub invariant-loop-line : goal.invariant-loop-line
invariant-loop-line l = record {
  can_next : (goal.iterator-loop-line).can_next l.line-iterator;
  ends : (goal.iterator-loop-line).is_finite l.line-iterator;
  read : l.patterns ++ map hex_pattern (lines_left l.line-iterator) ≡ map hex_pattern (lines l.fn.text);
  refusal : hex_refusal (length l.patterns) (sum_by length l.patterns) (lines_left l.line-iterator) ≡ hex_refusal 0 0 (lines l.fn.text);
}
