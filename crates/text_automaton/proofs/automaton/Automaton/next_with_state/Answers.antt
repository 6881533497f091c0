-- The first state with output belongs to the next end.
use Rattle.std.proofs.Common.{◌≡◌, ◌+◌, sym, ap, subst, arith}
use Rattle.text_automaton.specs.Automata.{IsStateAt, Outputs}
use Rattle.text_automaton.proofs.OutputLemmas.{ends_where_reported, none_further}
use Rattle.text_automaton.proofs.automaton.Automaton.next_with_state.Goals as goal

pub returns-then-at-reading-clause-state : goal.returns-then-at-reading-clause-state
returns-then-at-reading-clause-state c =
    let at = c.first_reporting-at.result in
    subst (IsStateAt c.args.self.now c.args.text.now (c.reads.reading.start + at + 1)) (sym c.from.ensures) (c.reads.invariant.reading.states at c.if-at-reading.true)

pub returns-then-at-reading-clause-next : goal.returns-then-at-reading-clause-next
returns-then-at-reading-clause-next c =
    let before = c.reads.invariant in
    let a = c.args.self.now in
    let r = c.reads.reading in
    let at = c.first_reporting-at.result in
    let found = c.first_reporting-at.ensures in
    let quiet : c.self.inside.tables.quiet ≡ a.quiet = ap (λ (x : Outputs). x.quiet) c.self.view_is in
    let there : IsStateAt a c.args.text.now (r.start + at + 1) c.from.result = returns-then-at-reading-clause-state c in
    let none = none_further a c.args.text.now r _ at before.reading found.within before.none (λ k low high. omega (arith, quiet, found.none k low high)) in
    record {
      after = omega (arith, before.after, found.after);
      within = omega (arith, before.reading.inside, c.if-at-reading.true);
      here = ends_where_reported a c.args.text.now (r.start + at + 1) c.from.result there (there.reporting (omega (arith, quiet, c.from.ensures, found.reporting c.if-at-reading.true)));
      first = λ other after low. none other after (omega (arith, low));
    }

pub returns-then-text-reading-clause-next : goal.returns-then-text-reading-clause-next
returns-then-text-reading-clause-next c end after here =
    let before = c.reads.invariant in
    let r = c.reads.reading in
    let found = c.first_reporting-at.ensures in
    let quiet : c.self.inside.tables.quiet ≡ c.args.self.now.quiet = ap (λ (x : Outputs). x.quiet) c.self.view_is in
    none_further c.args.self.now c.args.text.now r _ c.first_reporting-at.result before.reading found.within before.none (λ k low high. omega (arith, quiet, found.none k low high))
    end after (omega (arith, here.1.ends, c.if-text-reading.true, c.if-at-reading.false, before.reading.inside)) here

pub reads-preserved : goal.reads-preserved
reads-preserved c =
    let before = c.reads.invariant in
    let r = c.reads.reading in
    let found = c.first_reporting-at.ensures in
    let quiet : c.self.inside.tables.quiet ≡ c.args.self.now.quiet = ap (λ (x : Outputs). x.quiet) c.self.view_is in
    let none = none_further c.args.self.now c.args.text.now r _ c.first_reporting-at.result before.reading found.within before.none (λ k low high. omega (arith, quiet, found.none k low high)) in
    record {
      reading = c.read_on.ensures.reading;
      after = omega (arith, before.after, before.reading.passed, c.read_on.ensures.start, c.read_on.ensures.next);
      none = λ end after low. none end after (omega (arith, low, c.read_on.ensures.start, c.read_on.ensures.next, c.if-at-reading.false));
    }
