use Rattle.std.proofs.Common.{◌<◌, ℕ, List, length, subst}
use Rattle.std.proofs.lemmas.Result.{err_from_is_err_and}
use Rattle.scan_wire.specs.Causes.{Waits}
use Rattle.scan_wire.specs.Messages.{borrowed_parts}
use Rattle.scan_wire.specs.Reading.{StartsWith}
use Rattle.scan_serve.proofs.RunLemmas.{answers_none, answers_one, halts_first, stops_in}
use Rattle.scan_serve.proofs.frames.answer_one.Goals as goal

pub returns-in_err-request-clause-halt : goal.returns-in_err-request-clause-halt
returns-in_err-request-clause-halt g c =
    let p = err_from_is_err_and c.from_residual.result c.from_residual.ensures.1 in
    rw (p.1, p.2) (halts_first g.S.Answer.step c.args.session.now c.args.bytes.now c.split_at.result.1.now c.args.place (g.W.ByteOut.written c.args.out.now) c.args.outbox.now c.in_err-request.field-0.0 c.requires c.split_at.ensures.back c.in_err-request.ensures.halt)

pub returns-in_default-clause-found : goal.returns-in_default-clause-found
returns-in_default-clause-found g c =
    let found = rw c.in_default.is at c.in_ok-request.ensures.found in
    (subst (λ (x : List ℕ). Waits x) c.split_at.ensures.back found.0, subst (λ (x : List ℕ). length x < 65545) c.split_at.ensures.back found.1, answers_none g.S.Answer.step c.args.session.now c.args.bytes.now c.args.place (g.W.ByteOut.written c.args.out.now) c.args.outbox.now c.requires)

pub returns-in_err-answer-clause-halt : goal.returns-in_err-answer-clause-halt
returns-in_err-answer-clause-halt g c =
    let found = rw c.in-Some.is at c.in_ok-request.ensures.found in
    let starts = subst (λ (x : List ℕ). StartsWith x (borrowed_parts c.in-Some.request) c.in-Some.len) c.split_at.ensures.back found in
    let p = err_from_is_err_and c.from_residual-in_err-answer.result c.from_residual-in_err-answer.ensures.1 in
    rw (p.1, p.2) (stops_in g.S.Answer.step c.args.session.now c.args.bytes.now c.args.place c.in-Some.len (borrowed_parts c.in-Some.request) (g.W.ByteOut.written c.args.out.now) (g.W.ByteOut.written c.answer.new.out) c.args.outbox.now starts c.in_err-answer.ensures.err)

pub returns-clause-found : goal.returns-clause-found
returns-clause-found g c =
    let found = rw c.in-Some.is at c.in_ok-request.ensures.found in
    let starts = subst (λ (x : List ℕ). StartsWith x (borrowed_parts c.in-Some.request) c.in-Some.len) c.split_at.ensures.back found in
    (starts.some, answers_one g.S.Answer.step c.args.session.now c.answer.new.self c.args.bytes.now c.args.place c.in-Some.len (borrowed_parts c.in-Some.request) (g.W.ByteOut.written c.args.out.now) (g.W.ByteOut.written c.answer.new.out) c.args.outbox.now c.answer.new.outbox c.requires starts c.in_ok-answer.ensures.ok)
