-- The cursor gives the answer of the suffixes, and each remaining literal still has the bit of its key width.
use Rattle.std.proofs.Common.{◌<◌, length, arith}
use Rattle.std.proofs.lemmas.Option.{slice_get_within}
use Rattle.list_index.proofs.endings.Endings.next.Goals as goal
use Rattle.list_index.proofs.endings.Endings.next.Goals.{In_ok-place}

pub returns-in_err-place-clause-first : goal.returns-in_err-place-clause-first
returns-in_err-place-clause-first c = rw (c.from_residual.ensures, ← c.self.view_is, ← c.list.view_is) c.in_err-place.ensures.first

-- a literal that is found is in the list
within : (c : In_ok-place) → c.in_ok-place.place < length c.list.inside.list.texts
within c =
    let occurs = c.in_ok-place.ensures.first.occurs in
    slice_get_within c.list.inside.list.texts c.in_ok-place.place occurs.literal occurs.stands

pub overflow_add-self : goal.overflow_add-self
overflow_add-self c = omega (arith, within (goal.at.overflow_add-self c).In_ok-place, c.list.invariant.0.few)

pub returns-clause-within : goal.returns-clause-within
returns-clause-within c = rw (← c.self.view_is, ← c.list.view_is) (within (goal.at.returns-clause-within c).In_ok-place)
