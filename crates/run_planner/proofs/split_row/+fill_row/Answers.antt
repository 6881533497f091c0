-- The middle place is filled by its best end, which bounds the ends of both sides.
use Rattle.std.proofs.Common.{◌+◌, ◌-◌, ◌/◌, ◌∙◌, sym, subst, length, arith, rules}
use Rattle.std.specs.List.{slice_index}
use Rattle.std.proofs.Math.ListN.{length-set}
use Rattle.lit_base.specs.Costs.{MeetQuadrangle}
use Rattle.run_planner.specs.Splits.{Suffice}
use Rattle.run_planner.proofs.Splitting.{suffice-before, suffice-after, count-split}
use Rattle.run_planner.proofs.split_row.+fill_row.Goals as goal

pub fill_row-requires : goal.fill_row-requires
fill_row-requires g t c κs within =
    let later = c.args.later.now in
    let best = c.best_end-best.ensures in
    let quad = subst (λ n. MeetQuadrangle (g.M.Meter.prices c.args.meter.now) n) c.requires.size (g.met.M.Meter.quadrangle c.args.meter.now) in
    let middle = c.args.low + (c.args.high - c.args.low) / 2 in
    let sides = suffice-before (g.M.Meter.prices c.args.meter.now) (slice_index later) (length later) c.args.low middle c.args.high c.args.first c.args.last c.best_end-best.result.end quad c.requires.within (omega arith) best.first best.best c.requires.suffice in
    let held = subst (λ m. Suffice m (slice_index later) (length later) c.args.low middle c.args.first c.best_end-best.result.end) (sym best.prices) sides in
    (search rules, (within, (best.size ∙ c.requires.size, (c.requires.few, (c.requires.small, (rw length-set c.requires.row, (omega (arith, best.best.past), (best.first, (best.best.within, (held, (omega (arith, best.count))))))))))))

pub fill_row-requires-then-low-high : goal.fill_row-requires-then-low-high
fill_row-requires-then-low-high g t c κs within =
    let later = c.args.later.now in
    let best = c.best_end-best.ensures in
    let quad = subst (λ n. MeetQuadrangle (g.M.Meter.prices c.args.meter.now) n) c.requires.size (g.met.M.Meter.quadrangle c.args.meter.now) in
    let middle = c.args.low + (c.args.high - c.args.low) / 2 in
    let sides = suffice-after (g.M.Meter.prices c.args.meter.now) (slice_index later) (length later) c.args.low middle c.args.high c.args.first c.args.last c.best_end-best.result.end quad (omega arith) best.last best.best c.requires.suffice in
    let held = subst (λ m. Suffice m (slice_index later) (length later) (middle + 1) c.args.high c.best_end-best.result.end c.args.last) (sym (c.fill_row.ensures.prices ∙ best.prices)) sides in
    (search rules, (within, (c.fill_row.ensures.size ∙ (best.size ∙ c.requires.size), (c.requires.few, (c.requires.small, (rw (c.fill_row.ensures.len, length-set) c.requires.row, (omega arith, (best.last, (c.requires.within, (held, (omega (arith, best.count, c.fill_row.ensures.coarse))))))))))))

pub returns-then-low-high-clause-count : goal.returns-then-low-high-clause-count
returns-then-low-high-clause-count g t c d digits =
    count-split c.args.low (c.args.low + (c.args.high - c.args.low) / 2) c.args.high c.args.first c.best_end-best.result.end c.args.last d _ _ _ _ c.if-low-high.true (omega arith) c.best_end-best.ensures.first c.best_end-best.ensures.last digits c.best_end-best.ensures.count c.fill_row.ensures.count c.fill_row-then-low-high.ensures.count
