-- The plan is the list's, which is the normal form of the patterns.
use Rattle.std.proofs.Common.{sym, ◌∙◌, subst}
use Rattle.std.specs.List.{AllZip}
use Rattle.lit_base.specs.Assignments.{NoAssignmentBelow}
use Rattle.lit_base.specs.Literals.{Literals}
use Rattle.lit_base.specs.NormalForm.{IsPlaceOf}
use Rattle.lit_base.specs.Profiles.{buckets}
use Rattle.list_plan.specs.Planned.{IsPlanned}
use Rattle.fiolargu.proofs.making.plan_of.Goals as goal

pub returns-in-Ok-compile-clause-made : goal.returns-in-Ok-compile-clause-made
returns-in-Ok-compile-clause-made c =
    let p = c.in-Ok-compile.made in
    let same = c.in-Ok-compile.ensures.literals in
    record {
      literals = same ∙ (rw c.fold_of.ensures at c.in-Ok.ensures.list);
      planned = rw c.profile_of.ensures at (subst (λ (l : Literals). IsPlanned l c.profile_of.result p.certificate) (sym same) c.in-Ok-compile.ensures.planned);
      least = rw c.profile_of.ensures at (subst (λ (l : Literals). NoAssignmentBelow (buckets c.profile_of.result) l p.certificate.cost) (sym same) c.in-Ok-compile.ensures.least);
    }

pub returns-in-Ok-compile-clause-places : goal.returns-in-Ok-compile-clause-places
returns-in-Ok-compile-clause-places c =
    rw c.fold_of.ensures at (subst (λ (l : Literals). AllZip (IsPlaceOf c.fold_of.result l.texts) c.args.raw.now c.in-Ok.normal.place_of.items) (sym c.in-Ok-compile.ensures.literals) c.in-Ok.ensures.places)
