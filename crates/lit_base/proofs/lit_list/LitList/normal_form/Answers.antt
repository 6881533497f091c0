-- The literals are the normal form, and keep the limits of the raw list.
use Rattle.std.proofs.Common.{subst, sym}
use Rattle.lit_base.specs.NormalForm.{IsNormalForm}
use Rattle.lit_base.proofs.NormalForms.{is_normal, normal_form_is}
use Rattle.lit_base.proofs.lit_list.LitList.normal_form.Goals as goal

pub invariant_of-result : goal.invariant_of-result
invariant_of-result c = is_normal c.args.fold c.args.raw.now c.in_ok-literals.literals.items c.in_ok-literals.ensures.form c.in_ok-literals.ensures.limits c.in_ok-literals.ensures.few

pub returns-clause-form : goal.returns-clause-form
returns-clause-form c = subst (IsNormalForm c.args.fold c.args.raw.now) (sym c.in_ok-literals.ensures.form) (normal_form_is c.args.fold c.args.raw.now)
