-- The row after holds tail costs, which are small; at first every end is tried.
use Rattle.std.proofs.Common.{◌≡◌, ◌-◌, ◌*◌, length, take, drop, subst, arith}
use Rattle.std.specs.List.{slice_index}
use Rattle.lit_base.specs.Costs.{AreSmall}
use Rattle.run_planner.specs.Splits.{IsLeastSplit}
use Rattle.run_planner.proofs.Tails.{later-length, later-small, rows_next}
use Rattle.run_planner.proofs.tail_row.fill_next_row.Goals as goal

pub fill_row-requires-clause-small : goal.fill_row-requires-clause-small
fill_row-requires-clause-small g c =
    let n = c.args.n in
    let done = c.split_at_mut-done.result.0.now in
    let later = c.split_at.result.1.now in
    let prefix = subst (λ w. done ≡ take (c.args.r * w) c.args.rows.now) c.from-width.ensures c.split_at_mut-done.ensures.front in
    let back = subst (λ w. later ≡ drop ((c.args.r - 1) * w) done) c.from-width.ensures c.split_at.ensures.back in
    let small = subst (λ m. AreSmall (g.M.Meter.prices c.args.meter.now) m) c.requires.size (g.met.M.Meter.small c.args.meter.now) in
    later-small (g.M.Meter.prices c.args.meter.now) n c.args.r c.args.rows.now done later c.requires.from_one (omega (arith, c.requires.within)) prefix back c.requires.filled small

pub fill_row-requires-clause-suffice : goal.fill_row-requires-clause-suffice
fill_row-requires-clause-suffice g c p low inner q past le =
    let done = c.split_at_mut-done.result.0.now in
    let later = c.split_at.result.1.now in
    let prefix = subst (λ w. done ≡ take (c.args.r * w) c.args.rows.now) c.from-width.ensures c.split_at_mut-done.ensures.front in
    let back = subst (λ w. later ≡ drop ((c.args.r - 1) * w) done) c.from-width.ensures c.split_at.ensures.back in
    let size : length later ≡ c.args.n = later-length c.args.n c.args.r c.args.rows.now done later c.requires.from_one (omega (arith, c.requires.within)) prefix back in
    (q, omega (arith, past), omega (arith, le, size), past, omega arith)

pub returns-clause-filled : goal.returns-clause-filled
returns-clause-filled g c =
    let done = c.split_at_mut-done.result.0.now in
    let later = c.split_at.result.1.now in
    let prefix = subst (λ w. done ≡ take (c.args.r * w) c.args.rows.now) c.from-width.ensures c.split_at_mut-done.ensures.front in
    let back = subst (λ w. later ≡ drop ((c.args.r - 1) * w) done) c.from-width.ensures c.split_at.ensures.back in
    let size : length later ≡ c.args.n = later-length c.args.n c.args.r c.args.rows.now done later c.requires.from_one (omega (arith, c.requires.within)) prefix back in
    rows_next (g.M.Meter.prices c.args.meter.now) c.args.n c.args.r c.args.rows.now done later c.fill_row.new.row c.requires.from_one (omega (arith, c.requires.within)) prefix back c.requires.filled (λ p h. subst (λ n. IsLeastSplit (g.M.Meter.prices c.args.meter.now) (slice_index later) n p (slice_index c.fill_row.new.row p)) size (c.fill_row.ensures.filled p (omega arith) h))
