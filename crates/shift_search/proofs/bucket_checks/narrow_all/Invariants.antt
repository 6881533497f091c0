use Rattle.shift_search.specs.ShiftOr.{AreWidthsOf}
use Rattle.shift_search.proofs.bucket_checks.narrow_all.Given as goal

-- no width is wider than a literal passed
abbrev pub invariant-loop-place : goal.invariant-loop-place
invariant-loop-place l = AreWidthsOf l.list l.buckets l.widths.items l.place
