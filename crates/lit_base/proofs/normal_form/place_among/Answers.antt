-- The search finds the literal, since it is there.
use Rattle.std.proofs.Common.{◌≡◌, ◌≢◌, ◌<◌, [], length, Contains, arith, subst, sym}
use Rattle.std.proofs.lemmas.Grind.{common_steps}
use Rattle.lit_base.specs.Folding.{folded_text}
use Rattle.lit_base.proofs.SearchLemmas.{not_there, stands_there}
use Rattle.lit_base.proofs.normal_form.place_among.Goals as goal

pub unreachable-requires : goal.unreachable-requires
unreachable-requires c =
    let some : c.args.pattern.now ≢ [] = grind (arith, common_steps) in
    let is : c.in_ok-literal.literal ≡ folded_text c.args.fold c.args.pattern.now = c.in_ok-literal.ensures in
    let there : Contains c.args.literals.now c.in_ok-literal.literal = subst (Contains c.args.literals.now) (sym is) (c.requires.there some) in
    not_there c.args.literals.now c.in_ok-literal.literal c.in-Err.field-0 c.requires.rising c.in-Err.ensures.position there

pub returns : goal.returns
returns c =
    let some : 0 < length c.args.pattern.now = grind (arith, common_steps) in
    stands_there c.args.fold c.args.literals.now c.args.pattern.now c.in_ok-literal.literal c.in-Ok.place c.in_ok-literal.ensures some c.in-Ok.ensures.bound c.in-Ok.ensures.ok
