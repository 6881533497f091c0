-- The run, from its patterns and its inputs.
use Rattle.std.proofs.lemmas.Result.{err_from_is_err_and}
use Rattle.grep_run.proofs.AnswerLemmas.{answers-cut, answers-refused, answers-searched}
use Rattle.grep_run.proofs.running.answer.Goals as goal

pub returns-in_err-found-in-Ok-clause-answer : goal.returns-in_err-found-in-Ok-clause-answer
returns-in_err-found-in-Ok-clause-answer g c =
    let p = err_from_is_err_and c.from_residual.result c.from_residual.ensures.1 in
    rw p.1 (answers-cut c.args.options.now _ _ _ c.in-Ok.patterns c.in_err-found-in-Ok.field-0.0 c.in_err-found-in-Ok.field-0.0 _ _ _ _ c.in-Ok.ensures c.in_err-found-in-Ok.ensures.answer)

pub returns-in_ok-found-in-Ok-clause-answer : goal.returns-in_ok-found-in-Ok-clause-answer
returns-in_ok-found-in-Ok-clause-answer g c =
    answers-searched c.args.options.now _ _ _ c.in-Ok.patterns c.in_ok-found-in-Ok.found c.status_of.result _ _ _ _ c.status_of.ensures c.in-Ok.ensures c.in_ok-found-in-Ok.ensures.answer

pub returns-in-Err-clause-answer : goal.returns-in-Err-clause-answer
returns-in-Err-clause-answer g c =
    answers-refused c.args.options.now _ _ c.in-Err.why c.refuse.result _ _ _ c.refuse.ensures.status c.in-Err.ensures c.refuse.ensures.reported
