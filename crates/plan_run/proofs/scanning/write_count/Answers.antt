-- The hits of each span are counted after those before it.
use Rattle.std.proofs.Common.{◌≡◌, ◌+◌, ◌++◌, [], ◌∷◌, length, decimal, length-append, refl, rules, arith}
use Rattle.lit_base.specs.Occurrences.{IsHits}
use Rattle.text_ends.proofs.HitLists.{hits_none, none_past}
use Rattle.plan_run.specs.Answers.{AreHitsReported}
use Rattle.plan_run.specs.declared.request.Listing.TheVariants.{Count}
use Rattle.plan_run.specs.declared.status.Status.TheVariants.{Done}
use Rattle.plan_run.proofs.AnswerLemmas.{reports-text}
use Rattle.plan_run.proofs.SpanLemmas.{all-hits, span-joined}
use Rattle.plan_run.proofs.scanning.write_count.Goals as goal

pub loop-from-init : goal.loop-from-init
loop-from-init g c = record {
  done = [];
  within = omega arith;
  right = hits_none c.args.compiled.now.literals [] 0 0 (none_past c.args.compiled.now.literals [] 0 (omega arith));
  counted = refl;
}

pub loop-from-preserved : goal.loop-from-preserved
loop-from-preserved g c =
    let before = c.loop-from.invariant in
    let span = c.in_ok-span.span in
    record {
      done = before.done ++ span.hits.items;
      within = c.in_ok-span.ensures.ok.within;
      right = span-joined c.args.compiled.now.literals c.args.text.now c.loop-from.from span.end before.done span.hits.items before.right c.in_ok-span.ensures.ok;
      counted = let sum : c.in-Some.sum ≡ c.loop-from.count + length span.hits.items = search rules in
          omega (arith, sum, before.counted, length-append before.done span.hits.items);
    }

pub returns-clause-answer : goal.returns-clause-answer
returns-clause-answer g c =
    let before = c.loop-from.invariant in
    let l = c.args.compiled.now.literals in
    let text = c.args.text.now in
    let right : IsHits l text before.done = all-hits l text c.loop-from.from before.done c.carry-carry.ensures.bounds (omega (arith, c.loop-from-test.false)) before.right in
    let is : c.as_str.result.now ≡ decimal (length before.done) ++ 10 ∷ [] = search rules in
    reports-text (AreHitsReported l Count text) c.as_str.result.now Done c.report.result (g.W.ByteOut.written c.args.out.now) (g.W.ByteOut.written c.report.new.out)
    (record { hits = before.done; right = right; is = search rules }) c.report.ensures.text
