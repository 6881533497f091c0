-- At the end all patterns were seen.
use Rattle.std.proofs.Common.{◌≡◌, [], take, fold, length, arith, ap, ◌∙◌}
use Rattle.std.proofs.lemmas.Grind.{common_steps}
use Rattle.lit_base.specs.NormalForm.{with_pattern, normal_form}
use Rattle.lit_base.proofs.NormalForms.{normal_form-few}
use Rattle.lit_base.proofs.normal_form.distinct.Goals as goal

pub returns-clause-keys : goal.returns-clause-keys
unfolding normal_form
returns-clause-keys c =
    let all : take c.loop-place.place c.args.raw.now ≡ c.args.raw.now = grind (arith, common_steps) in
    c.loop-place.invariant ∙ ap (fold (with_pattern c.args.fold) []) all

pub returns-clause-few : goal.returns-clause-few
returns-clause-few c =
    omega (arith, ap length (returns-clause-keys c), normal_form-few c.args.fold c.args.raw.now, c.len-place-end.ensures.limits.few)
