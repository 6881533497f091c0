-- The lines of a part follow those before it.
use Rattle.std.proofs.Common.{◌≡◌, ◌<◌, ◌++◌, length, Err, ap, ◌∙◌, sym, append_assoc, rules}
use Rattle.std.proofs.lemmas.Result.{err_from_is_err_and}
use Rattle.plan_run.specs.declared.stop.Stop.TheVariants.{OutOfMemory}
use Rattle.plan_run.specs.Listings.{hit_lines}
use Rattle.plan_run.specs.declared.status.Status.TheVariants.{Done}
use Rattle.plan_run.proofs.ListingLemmas.{starved-more, stopped-more, wrote-more}
use Rattle.plan_run.proofs.listing.report_lines.Goals as goal

pub returns-in_err-push_hits-clause-text : goal.returns-in_err-push_hits-clause-text
returns-in_err-push_hits-clause-text g c =
    let stopped : c.from_residual.result ≡ Err OutOfMemory = search rules in
    let some : 0 < length c.loop-rest.rest.now = search rules in
    starved-more c.args.line c.args.compiled.now.literals (g.W.ByteOut.written c.args.out.now) _ c.args.hits.now c.loop-rest.invariant.done c.loop-rest.rest.now Done c.from_residual.result stopped c.loop-rest.invariant.parts some c.loop-rest.invariant.written

pub returns-in_err-report_bytes-clause-text : goal.returns-in_err-report_bytes-clause-text
returns-in_err-report_bytes-clause-text g c =
    let part = c.split_at.result.0.now in
    let after = c.split_at.result.1.now in
    let text : c.as_slice.result.now ≡ hit_lines c.args.line c.args.compiled.now.literals part = search rules in
    let whole : c.loop-rest.rest.now ≡ part ++ after = search rules in
    let p = err_from_is_err_and c.from_residual-in_err-report_bytes.result c.from_residual-in_err-report_bytes.ensures.1 in
    rw (p.1, p.2) (stopped-more c.args.line c.args.compiled.now.literals (g.W.ByteOut.written c.args.out.now) _ (g.W.ByteOut.written c.report_bytes.new.out) c.args.hits.now c.loop-rest.invariant.done part after _ Done _
    (c.loop-rest.invariant.parts ∙ ap (λ hs. c.loop-rest.invariant.done ++ hs) whole) text c.loop-rest.invariant.written c.in_err-report_bytes.ensures.text)

pub loop-rest-preserved : goal.loop-rest-preserved
loop-rest-preserved g c =
    let part = c.split_at.result.0.now in
    let after = c.split_at.result.1.now in
    let done = c.loop-rest.invariant.done in
    let text : c.as_slice.result.now ≡ hit_lines c.args.line c.args.compiled.now.literals part = search rules in
    let whole : c.loop-rest.rest.now ≡ part ++ after = search rules in
    record {
      done = done ++ part;
      parts = c.loop-rest.invariant.parts ∙ (ap (λ hs. done ++ hs) whole ∙ sym (append_assoc done part after));
      written = wrote-more c.args.line c.args.compiled.now.literals _ _ _ done part _ text c.loop-rest.invariant.written c.in_ok-report_bytes.ensures.text.1;
      flag = search rules;
    }
