-- The literals passed hold no newline.
use Rattle.std.proofs.Common.{ℕ, List, ◌<◌, get_or}
use Rattle.lit_base.specs.Lines.{IsOnePiece}
use Rattle.line_pick.proofs.matcher.is_in_lines.Given as goal

abbrev pub invariant-loop-place : goal.invariant-loop-place
invariant-loop-place l = (k : ℕ) (d : List ℕ) → k < l.place → IsOnePiece (get_or l.plan.literals.texts k d)
