-- The ends that were tried suffice.
use Rattle.std.proofs.Common.{arith, length}
use Rattle.std.specs.List.{slice_index}
use Rattle.run_planner.proofs.Splitting.{best-from_scan}
use Rattle.run_planner.proofs.split_row.best_end.Goals as goal

pub returns-clause-best : goal.returns-clause-best
returns-clause-best g c =
    let i = c.loop-end.invariant in
    best-from_scan (g.M.Meter.prices c.args.meter.now) (slice_index c.args.later.now) (length c.args.later.now) c.args.place c.args.first c.args.last _ _ _ _ (omega arith) (omega arith) (omega arith) c.requires.suffice i.from i.before i.price i.least
