-- The literal that was read stands among the view's texts; its length and that it is not empty follow.
use Rattle.std.proofs.Common.{◌≡◌, ◌<◌, length, get_or, arith, subst}
use Rattle.std.proofs.lemmas.Grind.{common_steps}
use Rattle.lit_base.proofs.Places.{mapped_at, holds_at}
use Rattle.lit_base.specs.Literals.{IsNormal}
use Rattle.lit_base.proofs.lit_list.LitList.get.Goals as goal

pub returns-clause-len : goal.returns-clause-len
returns-clause-len c =
    let at : c.as_slice.result.now ≡ get_or c.args.self.now.texts c.args.place c.as_slice.result.now = grind (arith, common_steps) in
    mapped_at length c.args.self.now.texts c.args.place c.as_slice.result.now c.requires at

pub returns-clause-nonempty : goal.returns-clause-nonempty
returns-clause-nonempty c =
    let at : c.as_slice.result.now ≡ get_or c.args.self.now.texts c.args.place c.as_slice.result.now = grind (arith, common_steps) in
    let normal : IsNormal c.args.self.now = subst IsNormal c.self.view_is c.self.invariant in
    holds_at (λ t. 0 < length t) c.args.self.now.texts c.args.place c.as_slice.result.now c.requires at normal.nonempty
