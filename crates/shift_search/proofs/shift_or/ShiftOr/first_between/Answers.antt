-- One place after the other is verified.
use Rattle.std.proofs.Common.{◌+◌, ap, ◌∙◌, arith}
use Rattle.shift_search.specs.ShiftOr.{Bucketing}
use Rattle.shift_search.proofs.ShiftOrLemmas.{none_one}
use Rattle.text_ends.proofs.EndLemmas.{none_joined}
use Rattle.shift_search.proofs.shift_or.ShiftOr.first_between.Goals as goal

pub returns-in-Some-clause-first : goal.returns-in-Some-clause-first
returns-in-Some-clause-first c = record {
  after = omega (arith, c.loop-seen.auto.seen);
  none = λ other after sooner. c.loop-seen.invariant other after (omega (arith, sooner));
  first = rw (c.deref.ensures ∙ ap (λ (b : Bucketing). b.literals) c.self.view_is) at c.in-Some.ensures.first;
}

pub loop-seen-preserved : goal.loop-seen-preserved
loop-seen-preserved c =
    none_joined c.args.self.now.literals c.args.text.now c.args.from c.loop-seen.seen c.loop-seen.invariant (c.loop-seen.seen + 1)
    (none_one c.args.self.now.literals c.args.text.now c.loop-seen.seen (rw (c.deref.ensures ∙ ap (λ (b : Bucketing). b.literals) c.self.view_is) at c.in_default.ensures.first))

pub returns-clause-first : goal.returns-clause-first
returns-clause-first c = λ end after within. c.loop-seen.invariant end after (omega (arith, within, after, c.loop-seen-test.false, c.loop-seen.auto))
