-- The answer, or the message in its place.
use Rattle.plan_run.proofs.EndLemmas.{ends-stopped, ends-printed}
use Rattle.plan_run.proofs.running.run.Goals as goal

pub returns-in-Ok-clause-ends : goal.returns-in-Ok-clause-ends
returns-in-Ok-clause-ends g c = ends-printed g.F.Output.ByteOut.written g.F.Output.ByteOut.has_failed c.args.request.now _ _ c.in-Ok.status (g.W.ByteOut.has_failed c.args.out.now) _ _ _ _ _ c.in-Ok.ensures.answer c.in-Ok.ensures.flag

pub returns-in-Err-clause-ends : goal.returns-in-Err-clause-ends
returns-in-Err-clause-ends g c =
    ends-stopped g.F.Output.ByteOut.written g.F.Output.ByteOut.has_failed c.args.request.now _ _ c.in-Err.stop (g.W.ByteOut.has_failed c.args.out.now) _ _ _ _ _ _ c.in-Err.ensures.answer c.in-Err.ensures.flag c.say.ensures
