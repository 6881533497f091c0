-- The lines of each span follow those before it.
use Rattle.std.proofs.Common.{◌≡◌, ◌++◌, [], Err, refl, rules, arith}
use Rattle.std.proofs.KnownBytes.{Appends-nil}
use Rattle.std.proofs.lemmas.Result.{err_from_is_err_and}
use Rattle.text_ends.proofs.HitLists.{hits_none, none_past}
use Rattle.plan_run.specs.declared.stop.Stop.TheVariants.{OutOfMemory}
use Rattle.plan_run.proofs.ListingLemmas.{wrote-more}
use Rattle.plan_run.proofs.SpanLemmas.{listed-all, listing-starved, listing-stopped, span-joined}
use Rattle.plan_run.proofs.scanning.write_hits.Goals as goal

pub loop-from-init : goal.loop-from-init
loop-from-init g c = record {
  done = [];
  within = omega arith;
  right = hits_none c.args.compiled.now.literals [] 0 0 (none_past c.args.compiled.now.literals [] 0 (omega arith));
  written = Appends-nil (g.W.ByteOut.written c.args.out.now);
  flag = refl;
}

pub returns-in_err-span-clause-answer : goal.returns-in_err-span-clause-answer
returns-in_err-span-clause-answer g c =
    let before = c.loop-from.invariant in
    let stopped : c.from_residual.result ≡ Err OutOfMemory = search rules in
    listing-starved c.args.line c.args.compiled.now.literals c.args.text.now c.loop-from.from before.done c.from_residual.result
    (g.W.ByteOut.written c.args.out.now) (g.W.ByteOut.written c.loop-from.out) c.carry-carry.ensures.bounds before.within stopped (c.in_err-span.ensures.quiet refl) before.right before.written

pub returns-in_err-report_lines-clause-answer : goal.returns-in_err-report_lines-clause-answer
returns-in_err-report_lines-clause-answer g c =
    let before = c.loop-from.invariant in
    let span = c.in_ok-span.span in
    let p = err_from_is_err_and c.from_residual-in_err-report_lines.result c.from_residual-in_err-report_lines.ensures.1 in
    rw (p.1, p.2) (listing-stopped c.args.line c.args.compiled.now.literals c.args.text.now c.loop-from.from span.end before.done span.hits.items c.as_slice.result.now _
    (g.W.ByteOut.written c.args.out.now) (g.W.ByteOut.written c.loop-from.out) (g.W.ByteOut.written c.report_lines.new.out) c.carry-carry.ensures.bounds c.in_ok-span.ensures.ok c.as_slice.ensures.value
    before.right before.written c.in_err-report_lines.ensures.text)

pub loop-from-preserved : goal.loop-from-preserved
loop-from-preserved g c =
    let before = c.loop-from.invariant in
    let span = c.in_ok-span.span in
    let l = c.args.compiled.now.literals in
    record {
      done = before.done ++ span.hits.items;
      within = c.in_ok-span.ensures.ok.within;
      right = span-joined l c.args.text.now c.loop-from.from span.end before.done span.hits.items before.right c.in_ok-span.ensures.ok;
      written = wrote-more c.args.line l _ _ _ before.done span.hits.items _ refl before.written (rw c.as_slice.ensures.value at c.in_ok-report_lines.ensures.text.1);
      flag = search rules;
    }

pub returns-clause-answer : goal.returns-clause-answer
returns-clause-answer g c =
    let before = c.loop-from.invariant in
    listed-all c.args.line c.args.compiled.now.literals c.args.text.now c.loop-from.from before.done
    (g.W.ByteOut.written c.args.out.now) (g.W.ByteOut.written c.loop-from.out) c.carry-carry.ensures.bounds (omega (arith, c.loop-from-test.false)) before.right before.written
