-- The potentials serve each run, and at the end no place remains.
use Rattle.std.proofs.Common.{sym, subst, arith}
use Rattle.lit_base.specs.Potentials.{potential}
use Rattle.run_planner.specs.TailCosts.{IsTailCost}
use Rattle.run_planner.proofs.FirstTails.{first_tail-done}
use Rattle.run_planner.proofs.first_cut.first_ends.Goals as goal

pub first_run_end-place-requires-clause-filled : goal.first_run_end-place-requires-clause-filled
first_run_end-place-requires-clause-filled g c r p from_one within inner =
    subst (λ prices. IsTailCost prices c.args.n r p (potential c.args.rows.now c.args.n r p)) (sym c.loop-place.invariant.prices) (c.requires.filled r p from_one (omega arith) inner)

pub returns-clause-first : goal.returns-clause-first
returns-clause-first g c =
    first_tail-done (g.M.Meter.prices c.args.meter.now) c.args.n c.args.rows.now c.args.runs c.loop-place.left c.loop-place.place _ c.loop-place.ends.items (omega arith) c.loop-place.invariant.whole
