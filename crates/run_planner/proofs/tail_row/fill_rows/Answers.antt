-- One row more.
use Rattle.std.proofs.Common.{◌+◌, ◌-◌, ◌*◌, ◌∙◌, sym, subst, arith}
use Rattle.run_planner.specs.TailCosts.{AreTailCosts}
use Rattle.run_planner.proofs.Tails.{times_more}
use Rattle.run_planner.proofs.tail_row.fill_rows.Goals as goal

pub fill_next_row-requires-clause-filled : goal.fill_next_row-requires-clause-filled
fill_next_row-requires-clause-filled g c =
    subst (λ prices. AreTailCosts prices c.args.n c.loop-r.r c.loop-r.rows) (sym c.loop-r.invariant.prices) c.loop-r.invariant.filled

pub loop-r-preserved : goal.loop-r-preserved
loop-r-preserved g c =
    let i = c.loop-r.invariant in
    let next = c.fill_next_row.ensures in
    record {
      prices = next.prices ∙ i.prices;
      size = next.size ∙ i.size;
      len = next.len ∙ i.len;
      filled = subst (λ prices. AreTailCosts prices c.args.n (c.loop-r.r + 1) c.fill_next_row.new.rows) i.prices next.filled;
      count = λ d digits.
          let more = times_more c.loop-r.r (d * (c.args.n - 1) + c.args.n) (omega arith) in
          omega (arith, i.count d digits, next.count d digits, more);
      coarse = omega (arith, i.coarse, next.coarse);
    }

pub returns-clause-filled : goal.returns-clause-filled
returns-clause-filled g c =
    subst (λ r. AreTailCosts (g.M.Meter.prices c.args.meter.now) c.args.n r c.loop-r.rows) (omega arith) c.loop-r.invariant.filled
