-- The list is planned, or there is none.
use Rattle.std.proofs.Common.{◌≡◌, List, ℕ, Result, Err, subst}
use Rattle.std.specs.Prelude.{string_bytes}
use Rattle.byte_io.specs.Devices.{IfKnown}
use Rattle.byte_io.specs.Sources.{AreShort, after, ask_of, taken_by}
use Rattle.lit_base.specs.Literals.{Literals}
use Rattle.plan_pack.specs.Taken.{TakesList}
use Rattle.plan_pack.specs.declared.stop.Stop.{Stop}
use Rattle.plan_run.proofs.AnswerLemmas.{plan-had, plan-stopped}
use Rattle.plan_run.proofs.planning.answer_plan.Goals as goal

pub returns-in-Ok-clause-answer : goal.returns-in-Ok-clause-answer
returns-in-Ok-clause-answer g c =
    rw c.as_str.ensures.value at (plan-had c.args.request.now.reading c.args.request.now.profile c.as_str.result.now (g.F.Opener.sources c.args.files.now) (g.F.Opener.sources c.list_of.new.files) c.in-Ok.list c.plan_list.result
    (g.W.ByteOut.written c.args.out.now) (g.W.ByteOut.written c.plan_list.new.out) c.in-Ok.ensures.list c.plan_list.ensures.answer)

-- no list was read
abbrev stopped : Stop → Result Literals Stop
stopped stop = Err stop

pub returns-in-Err-clause-answer : goal.returns-in-Err-clause-answer
returns-in-Err-clause-answer g c =
    let known = g.F.Opener.sources c.args.files.now in
    let left = g.F.Opener.sources c.list_of.new.files in
    let reading = c.args.request.now.reading in
    let stop = c.in-Err.stop in
    rw c.from.ensures.value (plan-stopped reading c.args.request.now.profile (string_bytes c.args.request.now.file) known left stop (g.W.ByteOut.written c.args.out.now)
    (subst (λ (name : List ℕ). IfKnown known left (λ s l. AreShort s → (l ≡ after (ask_of name) s) × TakesList reading name (taken_by (ask_of name) s) (stopped stop))) c.as_str.ensures.value c.in-Err.ensures.list))
