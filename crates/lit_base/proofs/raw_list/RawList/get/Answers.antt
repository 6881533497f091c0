-- The pattern that was read is one of the view's, which are all short.
use Rattle.std.proofs.Common.{◌≡◌, ◌≤◌, length, get_or, arith, subst}
use Rattle.std.proofs.lemmas.Grind.{common_steps}
use Rattle.lit_base.proofs.Places.{holds_at}
use Rattle.lit_base.specs.RawLists.{IsWithinLimits}
use Rattle.lit_base.specs.declared.limits.TheConstants.{MAX_LITERAL_LEN}
use Rattle.lit_base.proofs.raw_list.RawList.get.Goals as goal

pub returns-clause-short : goal.returns-clause-short
returns-clause-short c =
    let at : c.as_slice.result.now ≡ get_or c.args.self.now c.args.place c.as_slice.result.now = grind (arith, common_steps) in
    let within : IsWithinLimits c.args.self.now = subst IsWithinLimits c.self.view_is c.self.invariant.1 in
    holds_at (λ p. length p ≤ MAX_LITERAL_LEN) c.args.self.now c.args.place c.as_slice.result.now c.requires at within.short
