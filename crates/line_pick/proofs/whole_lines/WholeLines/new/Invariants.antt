-- The literals passed have their entries.
use Rattle.std.proofs.Common.{ℕ, ◌<◌}
use Rattle.lit_base.specs.Literals.{literal_at}
use Rattle.line_pick.specs.WholeLines.{HasStart}
use Rattle.line_pick.proofs.whole_lines.WholeLines.new.Given as goal

abbrev pub invariant-loop-place : goal.invariant-loop-place
invariant-loop-place l = (place : ℕ) → place < l.place → HasStart l.starts (literal_at l.list place)
