-- The literals are the normal form, and keep the limits of the raw list.
use Rattle.std.proofs.Common.{subst, sym}
use Rattle.std.specs.List.{AllZip}
use Rattle.lit_base.specs.NormalForm.{IsNormalForm, IsPlaceOf}
use Rattle.lit_base.proofs.NormalForms.{is_normal, normal_form_is}
use Rattle.lit_base.proofs.lit_list.LitList.normal.Goals as goal

pub invariant_of-list : goal.invariant_of-list
invariant_of-list c = is_normal c.args.fold c.args.raw.now c.in_ok-literals.literals.items c.in_ok-literals.ensures.form c.in_ok-literals.ensures.limits c.in_ok-literals.ensures.few

pub returns-clause-form : goal.returns-clause-form
returns-clause-form c = subst (IsNormalForm c.args.fold c.args.raw.now) (sym c.in_ok-literals.ensures.form) (normal_form_is c.args.fold c.args.raw.now)

pub returns-clause-places : goal.returns-clause-places
returns-clause-places c =
    subst (λ texts. AllZip (IsPlaceOf c.args.fold texts) c.args.raw.now c.in_ok-place_of.place_of.items) c.as_slice.ensures.value c.in_ok-place_of.ensures
