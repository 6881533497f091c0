-- The literals are the normal form, so they are in order and have each pattern that is not null.
use Rattle.std.proofs.Common.{◌<◌, length, arith, subst, sym}
use Rattle.std.proofs.lemmas.Grind.{common_steps}
use Rattle.std.specs.List.Sorted.{IsStrictlySortedBy}
use Rattle.lit_base.specs.Literals.{literal_cmp}
use Rattle.lit_base.specs.NormalForm.{IsPlaceOf}
use Rattle.lit_base.proofs.NormalForms.{normal_form_is, literal_is_there}
use Rattle.lit_base.proofs.Places.{zipped_more}
use Rattle.lit_base.proofs.normal_form.places.Goals as goal

pub place_among-requires-clause-rising : goal.place_among-requires-clause-rising
place_among-requires-clause-rising c =
    subst (IsStrictlySortedBy literal_cmp) (sym c.requires.form) (normal_form_is c.args.fold c.args.raw.now).rising

pub place_among-requires-clause-there : goal.place_among-requires-clause-there
place_among-requires-clause-there c some =
    let inside : c.loop-place.place < length c.args.raw.now = grind (arith, common_steps) in
    literal_is_there c.args.fold c.args.raw.now c.args.literals.now c.get.result.now c.loop-place.place inside c.get.ensures.value c.requires.form some

pub loop-place-preserved : goal.loop-place-preserved
loop-place-preserved c =
    let inside : c.loop-place.place < length c.args.raw.now = grind (arith, common_steps) in
    zipped_more (IsPlaceOf c.args.fold c.args.literals.now) c.args.raw.now c.loop-place.places.items c.push.new.self.items c.loop-place.place c.get.result.now _
    inside c.get.ensures.value c.loop-place.invariant c.in_ok-place_among.ensures c.in_ok-push.ensures.items
