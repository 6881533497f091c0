use Rattle.std.proofs.Common.{◌≤◌, ◌∙◌, length, take, ap, arith}
use Rattle.scan_wire.specs.declared.message.TheConstants.{MAX_HITS}
use Rattle.scan_run.proofs.SendingLemmas.{on_err, sends_full_prefix, sends_full_more}
use Rattle.scan_run.proofs.sending.send_full.Goals as goal

pub returns-in_err-push_hits-clause-err : goal.returns-in_err-push_hits-clause-err
returns-in_err-push_hits-clause-err g c =
    let now = c.loop-hits.hits.items in
    let prefix = c.split_at.ensures.front ∙ ap (λ hs. take MAX_HITS hs) c.deref.ensures.value in
    let many : MAX_HITS ≤ length now = omega (arith, c.loop-hits-test.true, c.len.ensures) in
    on_err c.from_residual.result
    (sends_full_prefix c.args.stream c.args.hits.now.items now c.split_at.result.0.now _ _ _ _ _ many prefix c.loop-hits.invariant.sent_full c.in_err-push_hits.ensures.err)

pub loop-hits-preserved : goal.loop-hits-preserved
loop-hits-preserved g c =
    let now = c.loop-hits.hits.items in
    let prefix = c.split_at.ensures.front ∙ ap (λ hs. take MAX_HITS hs) c.deref.ensures.value in
    let many : MAX_HITS ≤ length now = omega (arith, c.loop-hits-test.true, c.len.ensures) in
    record {
      sent_full = sends_full_more c.args.stream c.args.hits.now.items now c.split_at.result.0.now c.drop_first.new.hits.items _ _ _ _ _ _ many prefix c.drop_first.ensures c.loop-hits.invariant.sent_full c.in_ok-push_hits.ensures.ok;
      flag = c.in_ok-push_hits.ensures.flag (λ e. cc) ∙ c.loop-hits.invariant.flag;
    }
