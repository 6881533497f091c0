-- Each pattern so far has a place.
use Rattle.std.proofs.Common.{take}
use Rattle.std.specs.List.{AllZip}
use Rattle.lit_base.specs.NormalForm.{IsPlaceOf}
use Rattle.lit_base.proofs.normal_form.places.Given as goal

abbrev pub invariant-loop-place : goal.invariant-loop-place
invariant-loop-place l = AllZip (IsPlaceOf l.fold l.literals) (take l.place l.raw) l.places.items
