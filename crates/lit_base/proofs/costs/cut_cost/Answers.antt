-- No end of a cut lies past the last place.
use Rattle.std.proofs.Common.{◌≡◌, ◌<◌, length, get_or, arith}
use Rattle.std.proofs.lemmas.Grind.{common_steps}
use Rattle.lit_base.specs.Literals.{lengths}
use Rattle.lit_base.specs.Costs.{run_cost}
use Rattle.lit_base.proofs.Cuts.{next_end}
use Rattle.lit_base.proofs.costs.cut_cost.Goals as goal

pub run_cost-price-requires-clause-within : goal.run_cost-price-requires-clause-within
run_cost-price-requires-clause-within c =
    let list = c.args.list.now in
    let ends = c.args.ends.now.items in
    let within : c.loop-end.end-index < length ends = grind (arith, common_steps) in
    let at : c.from-end.result ≡ get_or ends c.loop-end.end-index 0 = grind (arith, common_steps) in
    omega (arith, at, next_end (run_cost (lengths list)) (length list.texts) ends c.loop-end.end-index c.loop-end.start c.loop-end.price within c.loop-end.invariant.0)
