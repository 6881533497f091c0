use Rattle.std.proofs.Common.{◌≡◌, ◌≢◌, ◌∙◌, ℕ, ◌<◌, length, refl, sym, ap, subst, arith}
use Rattle.std.specs.Prelude.{nat_eq}
use Rattle.std.proofs.lemmas.Bool.{eqb-true, false≢true}
use Rattle.std.proofs.lemmas.List.{length-drop}
use Rattle.scan_wire.specs.Frames.{replies_text}
use Rattle.scan_serve.specs.Sending.{Sends, SendsLess}
use Rattle.scan_serve.proofs.SendLemmas.{err_weaker}
use Rattle.scan_core.specs.Steps.{fed_replies}
use Rattle.scan_core.proofs.PrefixLemmas.{feeding_goes_on}
use Rattle.scan_run.specs.Feeding.{last_block}
use Rattle.scan_run.proofs.FeedLemmas.{answered_whole, fed_none, fed_on, feeds_some, stopped_feeding, stopped_last}
use Rattle.scan_run.proofs.SendingLemmas.{ok_weaker, on_err}
use Rattle.scan_run.proofs.feeding.feed_whole.Goals as goal

pub loop-rest-init : goal.loop-rest-init
loop-rest-init g c = record {
  fed = fed_none c.args.session.now c.args.stream c.args.piece.now c.args.place c.clear.new.self.items _ c.args.outbox.now c.requires c.clear.ensures.items;
  flag = refl;
  store = refl;
}

pub feed_on-requires-clause-open : goal.feed_on-requires-clause-open
feed_on-requires-clause-open g c =
    let so = c.loop-rest.invariant.fed in
    feeding_goes_on c.args.session.now c.loop-rest.session c.args.stream c.args.piece.now so.bytes c.loop-rest.rest.now _ c.args.place c.requires so.text_is so.feeding

pub returns-in_err-count-clause-err : goal.returns-in_err-count-clause-err
returns-in_err-count-clause-err g c =
    on_err c.from_residual.result
    (stopped_feeding c.args.session.now c.loop-rest.session c.args.stream c.args.piece.now c.loop-rest.rest.now c.args.place c.loop-rest.hits.items _ _ _ _ _ c.requires c.loop-rest.invariant.fed c.in_err-count.ensures.err)

pub loop-rest-smaller : goal.loop-rest-smaller
loop-rest-smaller g c =
    let rest = c.loop-rest.rest.now in
    let any : length rest ≢ 0 = λ e. false≢true (sym c.loop-rest-test.true ∙ c.is_empty.ensures ∙ ap (λ (n : ℕ). nat_eq n 0) e) in
    let some : 0 < c.in_ok-count.count = feeds_some c.loop-rest.session c.feed_on.new.session c.args.stream rest c.in_ok-count.count c.loop-rest.hits.items c.feed_on.new.hits.items _ _ _ _ c.loop-rest.invariant.fed.few any c.in_ok-count.ensures.ok in
    omega (arith, some, any, ap length c.split_at.ensures.back, length-drop c.in_ok-count.count rest)

pub loop-rest-preserved : goal.loop-rest-preserved
loop-rest-preserved g c = record {
  fed = fed_on c.args.session.now c.loop-rest.session c.feed_on.new.session c.args.stream c.args.piece.now c.loop-rest.rest.now c.split_at.result.1.now c.in_ok-count.count c.loop-rest.hits.items c.feed_on.new.hits.items _ _ _ _ _ _ c.loop-rest.invariant.fed c.in_ok-count.ensures.ok c.split_at.ensures.back;
  flag = c.in_ok-count.ensures.flag (λ e. cc) ∙ c.loop-rest.invariant.flag;
  store = c.in_ok-count.ensures.store ∙ c.loop-rest.invariant.store;
}

pub returns-clause-ok : goal.returns-clause-ok
returns-clause-ok g c =
    let rest = c.loop-rest.rest.now in
    let none : length rest ≡ 0 = eqb-true (length rest) 0 (sym c.is_empty.ensures ∙ c.loop-rest-test.false) in
    let hits = c.loop-rest.hits.items in
    ok_weaker c.send_last.result
    (λ sent. answered_whole c.args.session.now c.loop-rest.session c.args.stream c.args.piece.now rest c.args.place hits _ _ _ _ _ _ c.requires none c.loop-rest.invariant.fed
    (subst (λ hs. Sends (g.W.ByteOut.written c.loop-rest.out) (g.W.ByteOut.written c.send_last.new.out) c.loop-rest.outbox c.send_last.new.outbox (replies_text (fed_replies c.args.stream (last_block hs) c.args.place))) c.deref.ensures.value sent))
    c.send_last.ensures.ok

pub returns-clause-err : goal.returns-clause-err
returns-clause-err g c =
    let rest = c.loop-rest.rest.now in
    let none : length rest ≡ 0 = eqb-true (length rest) 0 (sym c.is_empty.ensures ∙ c.loop-rest-test.false) in
    let hits = c.loop-rest.hits.items in
    err_weaker c.send_last.result
    (λ sent. stopped_last c.args.session.now c.loop-rest.session c.args.stream c.args.piece.now rest c.args.place hits _ _ _ _ _ c.requires none c.loop-rest.invariant.fed
    (subst (λ hs. SendsLess (g.W.ByteOut.written c.loop-rest.out) (g.W.ByteOut.written c.send_last.new.out) c.loop-rest.outbox (replies_text (fed_replies c.args.stream (last_block hs) c.args.place))) c.deref.ensures.value sent))
    c.send_last.ensures.err
