-- The plan is explained, or there is no list.
use Rattle.std.proofs.Common.{sym, subst}
use Rattle.plan_pack.specs.Lists.{ArePlaces}
use Rattle.plan_run.proofs.AnswerLemmas.{explain-had, explain-stopped}
use Rattle.plan_run.proofs.explaining.answer_explain.Goals as goal

pub returns-in-Ok-clause-answer : goal.returns-in-Ok-clause-answer
returns-in-Ok-clause-answer g c =
    rw c.as_str.ensures.value at (explain-had c.args.request.now.reading c.args.request.now.profile c.args.request.now.view c.as_str.result.now _ _ (c.in-Ok.list, c.in-Ok.normal) c.explain_list.result _ _ c.in-Ok.ensures.list (λ patterns placed.
    c.explain_list.ensures.answer patterns (subst (λ places. ArePlaces c.in-Ok.list patterns places) (sym c.as_slice-places.ensures.value) placed)))

pub returns-in-Err-clause-answer : goal.returns-in-Err-clause-answer
returns-in-Err-clause-answer g c =
    rw c.as_str.ensures.value at (explain-stopped c.args.request.now.reading c.args.request.now.profile c.args.request.now.view c.as_str.result.now _ _ c.in-Err.stop c.report_stop.result _ _ c.in-Err.ensures.list c.in-Err.ensures.named c.report_stop.ensures.answer)
