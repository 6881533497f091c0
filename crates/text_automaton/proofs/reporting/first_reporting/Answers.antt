-- The states passed are those before a chunk, and those that are counted in it.
use Rattle.std.proofs.Common.{◌≡◌, ◌+◌, ◌-◌, ◌<◌, ◌≤◌, inl, inr, slice_index, subst, arith}
use Rattle.std.proofs.lemmas.Bool.{cases_lt}
use Rattle.text_automaton.proofs.reporting.first_reporting.Goals as goal

pub returns-then-skipped-lt-STATES-clause-none : goal.returns-then-skipped-lt-STATES-clause-none
returns-then-skipped-lt-STATES-clause-none c k after before = elim (cases_lt k c.chunks.at) [
  | inl sooner ↦ c.chunks.invariant.none k after sooner
  | inr later ↦
      let here : c.chunks.at + (k - c.chunks.at) ≡ k = omega (arith, later) in
      subst (λ p. slice_index c.args.states.now p < c.args.quiet) here (c.count_quiet-skipped.ensures.none (k - c.chunks.at) (omega (arith, before, later, c.min.ensures)))
]

pub returns-then-skipped-lt-STATES-clause-reporting : goal.returns-then-skipped-lt-STATES-clause-reporting
returns-then-skipped-lt-STATES-clause-reporting c inside =
    let here : c.chunks.at + c.count_quiet-skipped.result ≡ c.min.result = omega (arith, inside, c.min.ensures) in
    subst (λ p. c.args.quiet ≤ slice_index c.args.states.now p) here (c.count_quiet-skipped.ensures.reporting c.if-skipped-lt-STATES.true)

pub chunks-preserved : goal.chunks-preserved
chunks-preserved c =
    let before = c.chunks.invariant in
    record {
      after = omega (arith, before.after);
      within = omega (arith, c.chunks-test.true, before.within);
      none = λ k after low. elim (cases_lt k c.chunks.at) [
        | inl sooner ↦ before.none k after sooner
        | inr later ↦
            let here : c.chunks.at + (k - c.chunks.at) ≡ k = omega (arith, later) in
            subst (λ p. slice_index c.args.states.now p < c.args.quiet) here (c.count_quiet-skipped.ensures.none (k - c.chunks.at) (omega (arith, low, later, c.if-skipped-lt-STATES.false)))
      ];
    }
