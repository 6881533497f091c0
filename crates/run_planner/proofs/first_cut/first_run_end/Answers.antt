-- With one run left it goes to the end; else the end is the first that reaches the potential.
use Rattle.std.proofs.Common.{◌≡◌, ◌+◌, ◌-◌, ◌*◌, get_or, sym, subst, arith}
use Rattle.lit_base.specs.Costs.{AreSmall}
use Rattle.lit_base.specs.Potentials.{potential}
use Rattle.lit_base.proofs.Least.{potential-inner}
use Rattle.run_planner.proofs.FirstTails.{goes_on, fewer_at, fewer-small}
use Rattle.run_planner.proofs.first_cut.first_run_end.Goals as goal

pub returns-then-runs-eq1-clause-first : goal.returns-then-runs-eq1-clause-first
returns-then-runs-eq1-clause-first g c =
    goes_on (g.M.Meter.prices c.args.meter.now) c.args.n c.args.rows.now c.args.runs c.args.place c.args.n c.requires.from_one c.requires.filled c.requires.inner (omega arith) (λ inner. absurd (omega (arith, inner))) (λ q past before some. absurd (omega arith))

pub first_reaching-requires-clause-small : goal.first_reaching-requires-clause-small
first_reaching-requires-clause-small g c =
    let small = subst (λ m. AreSmall (g.M.Meter.prices c.args.meter.now) m) c.requires.size (g.met.M.Meter.small c.args.meter.now) in
    fewer-small (g.M.Meter.prices c.args.meter.now) c.args.rows.now c.args.n c.args.runs c.from-width.result c.from-width.ensures (omega arith) c.requires.filled small

pub returns-clause-first : goal.returns-clause-first
returns-clause-first g c =
    let rows = c.args.rows.now in
    let end = c.first_reaching.ensures.end in
    let price = sym (potential-inner rows c.args.n c.args.runs c.args.place c.requires.inner) in
    let by_width = subst (λ w. get_or rows ((c.args.runs - 1) * w + c.args.place) 0 ≡ potential rows c.args.n c.args.runs c.args.place) (sym c.from-width.ensures) price in
    let price_is = subst (λ p. get_or rows ((c.args.runs - 1) * c.from-width.result + p) 0 ≡ potential rows c.args.n c.args.runs c.args.place) (sym c.from.ensures) by_width in
    goes_on (g.M.Meter.prices c.args.meter.now) c.args.n rows c.args.runs c.args.place c.first_reaching.result c.requires.from_one c.requires.filled end.past end.within
    (λ inner. omega (arith, end.reaches inner, price_is, fewer_at rows c.args.n c.args.runs c.from-width.result c.first_reaching.result c.from-width.ensures (omega arith) inner))
    (λ q past before some is. end.before q past before (omega (arith, is, price_is, fewer_at rows c.args.n c.args.runs c.from-width.result q c.from-width.ensures (omega arith) (omega (arith, before, end.within)))))
