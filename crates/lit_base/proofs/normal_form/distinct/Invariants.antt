-- The set has the literals of the patterns so far.
use Rattle.std.proofs.Common.{◌≡◌, [], take, fold}
use Rattle.lit_base.specs.NormalForm.{with_pattern}
use Rattle.lit_base.proofs.normal_form.distinct.Given as goal

abbrev pub invariant-loop-place : goal.invariant-loop-place
invariant-loop-place l = l.literals.keys ≡ fold (with_pattern l.fold) [] (take l.place l.raw)
