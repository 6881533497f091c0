use Rattle.std.proofs.Common.{◌∙◌, ℕ, List, drop, ap, sym, subst}
use Rattle.std.proofs.lemmas.Result.{err_from_is_err_and}
use Rattle.scan_serve.specs.Answering.{AnswersAll, AnswersPrefix, AnswersTextPrefix, GoesOn}
use Rattle.scan_serve.proofs.TurnLemmas.{goes_on, stops_answering, stops_flushing, stops_refusing}
use Rattle.scan_serve.proofs.answering.answer_window.Goals as goal

pub returns-in_ok-flush-in-Ok-clause-answers : goal.returns-in_ok-flush-in-Ok-clause-answers
returns-in_ok-flush-in-Ok-clause-answers g c =
    let ok = c.in-Ok.ensures.ok in
    let text = c.bytes.result.now in
    let written = g.W.ByteOut.written in
    let all = subst (λ (a : List ℕ). AnswersAll g.S.Answer.step c.args.session.now c.answer_all.new.session text 0 c.answer_all.new.place (written c.args.out.now) (written c.answer_all.new.out) a c.answer_all.new.outbox) c.requires ok.2 in
    subst (λ (x : List ℕ). GoesOn g.S.Answer.step c.args.session.now c.answer_all.new.session (written c.args.out.now) (written c.flush.new.out) x c.skip.new.self) c.bytes.ensures.value
    (goes_on g.S.Answer.step c.args.session.now c.answer_all.new.session text c.skip.new.self c.answer_all.new.place (written c.args.out.now) (written c.answer_all.new.out) (written c.flush.new.out) c.answer_all.new.outbox c.flush.new.self all ok.0 ok.1 c.in_ok-flush-in-Ok.ensures.ok c.in_ok-flush-in-Ok.ensures.empty (c.skip.ensures ∙ ap (λ (x : List ℕ). drop c.answer_all.new.place x) (sym c.bytes.ensures.value)))

pub returns-in_err-flush-in-Ok-clause-stop : goal.returns-in_err-flush-in-Ok-clause-stop
returns-in_err-flush-in-Ok-clause-stop g c =
    let text = c.bytes.result.now in
    let written = g.W.ByteOut.written in
    let all = subst (λ (a : List ℕ). AnswersAll g.S.Answer.step c.args.session.now c.answer_all.new.session text 0 c.answer_all.new.place (written c.args.out.now) (written c.answer_all.new.out) a c.answer_all.new.outbox) c.requires c.in-Ok.ensures.ok.2 in
    let p = err_from_is_err_and c.from_residual.result c.from_residual.ensures.1 in
    rw p.1 (subst (λ (x : List ℕ). AnswersTextPrefix g.S.Answer.step c.args.session.now (written c.args.out.now) (written c.flush.new.out) x) c.bytes.ensures.value
    (stops_flushing g.S.Answer.step c.args.session.now c.answer_all.new.session text c.answer_all.new.place (written c.args.out.now) (written c.answer_all.new.out) (written c.flush.new.out) c.answer_all.new.outbox all c.in_err-flush-in-Ok.ensures.err))

pub returns-in_err-refuse-in-Err-Bad-clause-stop : goal.returns-in_err-refuse-in-Err-Bad-clause-stop
returns-in_err-refuse-in-Err-Bad-clause-stop g c =
    let text = c.bytes.result.now in
    let written = g.W.ByteOut.written in
    let bad = rw c.in-Err-Bad.field-0-is at c.in-Err-Bad.ensures.halt in
    let all = subst (λ (a : List ℕ). AnswersAll g.S.Answer.step c.args.session.now c.answer_all.new.session text 0 c.answer_all.new.place (written c.args.out.now) (written c.answer_all.new.out) a c.answer_all.new.outbox) c.requires bad.1 in
    let p = err_from_is_err_and c.from_residual-in_err-refuse-in-Err-Bad.result c.from_residual-in_err-refuse-in-Err-Bad.ensures.1 in
    rw p.1 (subst (λ (x : List ℕ). AnswersTextPrefix g.S.Answer.step c.args.session.now (written c.args.out.now) (written c.refuse.new.out) x) c.bytes.ensures.value
    (stops_refusing g.S.Answer.step c.args.session.now c.answer_all.new.session text c.answer_all.new.place c.in-Err-Bad.cause (written c.args.out.now) (written c.answer_all.new.out) (written c.refuse.new.out) c.answer_all.new.outbox all bad.0 c.in_err-refuse-in-Err-Bad.ensures.err))

pub returns-in-Err-Stopped-clause-stop : goal.returns-in-Err-Stopped-clause-stop
returns-in-Err-Stopped-clause-stop g c =
    let text = c.bytes.result.now in
    let written = g.W.ByteOut.written in
    let prefix = rw c.in-Err-Stopped.field-0-is at c.in-Err-Stopped.ensures.halt in
    let whole = subst (λ (a : List ℕ). AnswersPrefix g.S.Answer.step c.args.session.now text 0 (written c.args.out.now) (written c.answer_all.new.out) a) c.requires prefix in
    subst (λ (x : List ℕ). AnswersTextPrefix g.S.Answer.step c.args.session.now (written c.args.out.now) (written c.answer_all.new.out) x) c.bytes.ensures.value
    (stops_answering g.S.Answer.step c.args.session.now text (written c.args.out.now) (written c.answer_all.new.out) whole)
