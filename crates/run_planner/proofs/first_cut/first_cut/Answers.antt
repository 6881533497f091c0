-- Into the fewest runs with the price of all, the first cheapest cut is the first of all.
use Rattle.std.proofs.Common.{◌∙◌, sym, arith}
use Rattle.run_planner.proofs.FirstTails.{first_cut-from_tail}
use Rattle.run_planner.proofs.first_cut.first_cut.Goals as goal

pub returns-clause-first : goal.returns-clause-first
returns-clause-first g c =
    let few = c.fewest_runs-runs.ensures in
    first_cut-from_tail (g.M.Meter.prices c.args.meter.now) c.args.n c.args.rows.now c.fewest_runs-runs.result c.args.most c.first_ends.result.items c.requires.some few.from_one few.within c.requires.filled few.reaches few.fewest c.first_ends.ensures.first

pub returns-clause-price : goal.returns-clause-price
returns-clause-price g c = sym (c.first_ends.ensures.first.price ∙ c.fewest_runs-runs.ensures.reaches)

pub first_ends-requires-clause-filled : goal.first_ends-requires-clause-filled
first_ends-requires-clause-filled g c r p from_one within inner =
    c.requires.filled r p from_one (omega (arith, within, c.fewest_runs-runs.ensures.within)) inner
