-- Two lists in normal form have the same literals in one order.
use Rattle.lit_base.proofs.NormalForms.{normal_form_is, normal_form_only}
use Rattle.lit_base.proofs.normal_form.normal_form_law.Goals as goal

pub returns : goal.returns
returns c = record { is = normal_form_is; only = normal_form_only }
