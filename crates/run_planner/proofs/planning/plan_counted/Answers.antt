-- The potentials are what the rows were filled with, and the count adds up.
use Rattle.std.proofs.Common.{◌≡◌, ◌+◌, ◌*◌, ◌-◌, ◌<◌, ◌≤◌, ◌∙◌, ◌++◌, length, get_or, take, drop, refl, sym, ap, subst, arith}
use Rattle.std.proofs.lemmas.List.{get_or_read}
use Rattle.lit_base.specs.Profiles.{buckets}
use Rattle.lit_base.specs.Cuts.{cut_price}
use Rattle.run_planner.specs.FirstCut.{IsFirstCut}
use Rattle.run_planner.specs.TailCosts.{AreTailCosts}
use Rattle.run_planner.proofs.FirstTails.{first_entry}
use Rattle.run_planner.proofs.Certificates.{written_back, count_all, last_within}
use Rattle.run_planner.proofs.OnePlan.{plan-one}
use Rattle.run_planner.proofs.planning.plan_counted.Goals as goal

pub first_cut-ends-requires-clause-filled : goal.first_cut-ends-requires-clause-filled
first_cut-ends-requires-clause-filled g c =
    let back = written_back c.fill_rows.new.rows c.in_ok-potentials.potentials.items c.in_ok-potentials.potentials.len (omega (arith, c.fill_rows.ensures.len, c.as_mut_slice.ensures.len)) in
    let same = c.as_slice.ensures.value ∙ back in
    let filled = subst (λ rows. AreTailCosts (g.M.Meter.prices c.args.meter.now) c.args.n c.buckets-most.result rows) (sym same) c.fill_rows.ensures.filled in
    subst (λ prices. AreTailCosts prices c.args.n c.buckets-most.result c.as_slice.result.now) (sym c.fill_rows.ensures.prices) filled

pub returns-clause-first : goal.returns-clause-first
returns-clause-first g c =
    subst (λ m. IsFirstCut (g.M.Meter.prices c.args.meter.now) m c.args.n c.first_cut-ends.result.items) c.buckets-most.ensures.value
    (subst (λ prices. IsFirstCut prices c.buckets-most.result c.args.n c.first_cut-ends.result.items) c.fill_rows.ensures.prices c.first_cut-ends.ensures.first)

pub returns-clause-len : goal.returns-clause-len
returns-clause-len g c =
    let back = written_back c.fill_rows.new.rows c.in_ok-potentials.potentials.items c.in_ok-potentials.potentials.len (omega (arith, c.fill_rows.ensures.len, c.as_mut_slice.ensures.len)) in
    let size : length c.as_mut_slice.result.now ≡ c.buckets-most.result * c.from.result = omega (arith, c.as_mut_slice.ensures.len, c.in_ok-potentials.ensures.len) in
    ap length back ∙ c.fill_rows.ensures.len ∙ size ∙ (λ i. c.buckets-most.ensures.value i * c.from.ensures i)

pub returns-clause-cost : goal.returns-clause-cost
returns-clause-cost g c =
    let back = written_back c.fill_rows.new.rows c.in_ok-potentials.potentials.items c.in_ok-potentials.potentials.len (omega (arith, c.fill_rows.ensures.len, c.as_mut_slice.ensures.len)) in
    let held = take c.in_ok-potentials.potentials.len (c.fill_rows.new.rows ++ drop (length c.fill_rows.new.rows) c.in_ok-potentials.potentials.items) in
    let some : 0 < c.args.n = omega arith in
    let m = c.buckets-most.result in
    let last = last_within c.args.profile c.args.n (length held) some (returns-clause-len g c) in
    let within : (m - 1) * c.from-2.result < length held =
    subst (λ k. (k - 1) * c.from-2.result < length held) (sym c.buckets-most.ensures.value) (subst (λ x. (buckets c.args.profile - 1) * x < length held) (sym c.from-2.ensures) last) in
    let read = get_or_read held ((m - 1) * c.from-2.result) c.index-cost.result.now within c.index-cost.ensures 0 in
    let at = subst (λ rows. c.index-cost.result.now ≡ get_or rows ((m - 1) * c.from-2.result) 0) (sym c.as_slice.ensures.value) read in
    let price = ap (λ prices. cut_price prices 0 c.first_cut-ends.result.items) c.fill_rows.ensures.prices in
    at ∙ (sym (first_entry c.as_slice.result.now c.args.n m c.from-2.result c.from-2.ensures some) ∙ (c.first_cut-ends.ensures.price ∙ price))

pub returns-clause-potentials : goal.returns-clause-potentials
returns-clause-potentials g c =
    let back = written_back c.fill_rows.new.rows c.in_ok-potentials.potentials.items c.in_ok-potentials.potentials.len (omega (arith, c.fill_rows.ensures.len, c.as_mut_slice.ensures.len)) in
    let held = take c.in_ok-potentials.potentials.len (c.fill_rows.new.rows ++ drop (length c.fill_rows.new.rows) c.in_ok-potentials.potentials.items) in
    subst (λ m. AreTailCosts (g.M.Meter.prices c.args.meter.now) c.args.n m held) c.buckets-most.ensures.value
    (subst (λ rows. AreTailCosts (g.M.Meter.prices c.args.meter.now) c.args.n c.buckets-most.result rows) (sym back) c.fill_rows.ensures.filled)

pub returns-clause-count : goal.returns-clause-count
returns-clause-count g c d digits =
    let n = c.args.n in
    let filled = subst (λ m. g.M.Meter.count c.fill_rows.new.meter ≤ g.M.Meter.count c.args.meter.now + n + (m - 1) * (d * (n - 1) + n)) c.buckets-most.ensures.value (c.fill_rows.ensures.count d digits) in
    count_all c.args.profile n d _ _ _ (omega arith) digits filled c.first_cut-ends.ensures.count

pub returns-clause-only : goal.returns-clause-only
returns-clause-only g c =
    plan-one (g.M.Meter.prices c.args.meter.now) c.args.profile c.args.n _ (record {
      for_profile = refl;
      first = returns-clause-first g c;
      cost = returns-clause-cost g c;
      potentials = returns-clause-potentials g c;
      len = returns-clause-len g c;
    })
