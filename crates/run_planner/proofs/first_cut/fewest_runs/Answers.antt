-- The first entry of each row is compared with the last row's.
use Rattle.std.proofs.Common.{◌≡◌, ◌∙◌, inl, inr, sym, subst, arith}
use Rattle.std.proofs.lemmas.Bool.{cases_lt}
use Rattle.lit_base.specs.Potentials.{potential}
use Rattle.run_planner.proofs.FirstTails.{first_entry}
use Rattle.run_planner.proofs.first_cut.fewest_runs.Goals as goal

pub returns-then-rows-r-clause-reaches : goal.returns-then-rows-r-clause-reaches
returns-then-rows-r-clause-reaches c =
    let rows = c.args.rows.now in
    let width = c.from-width.result in
    first_entry rows c.args.n c.loop-r.r width c.from-width.ensures c.requires.some
    ∙ (c.if-rows-r.true ∙ sym (first_entry rows c.args.n c.args.most width c.from-width.ensures c.requires.some))

pub loop-r-preserved : goal.loop-r-preserved
loop-r-preserved c r from_one before same = elim (cases_lt r c.loop-r.r) [
  | inl earlier ↦ c.loop-r.invariant r from_one earlier same
  | inr last ↦
      let rows = c.args.rows.now in
      let width = c.from-width.result in
      let here : r ≡ c.loop-r.r = omega (arith, last, before) in
      let alike = subst (λ k. potential rows c.args.n k 0 ≡ potential rows c.args.n c.args.most 0) here same in
      c.if-rows-r.false (sym (first_entry rows c.args.n c.loop-r.r width c.from-width.ensures c.requires.some)
      ∙ (alike ∙ first_entry rows c.args.n c.args.most width c.from-width.ensures c.requires.some))
]
