-- The input is searched by the file's plan, or there is none.
use Rattle.std.proofs.Common.{◌≡◌, List, ℕ, Result, Err, subst}
use Rattle.std.specs.Prelude.{string_bytes}
use Rattle.byte_io.specs.Devices.{IfKnown}
use Rattle.byte_io.specs.Sources.{AreShort, after, ask_of, taken_by}
use Rattle.lit_plan.specs.Plans.{Plan}
use Rattle.lit_base.specs.declared.profile.Profile.TheVariants.{Eight}
use Rattle.plan_pack.specs.Taken.{TakesPlan}
use Rattle.plan_pack.specs.declared.stop.Stop.{Stop}
use Rattle.plan_run.proofs.AnswerLemmas.{scan-had, scan-stopped}
use Rattle.plan_run.proofs.scanning.answer_scan.Goals as goal

pub returns-in-Ok-clause-answer : goal.returns-in-Ok-clause-answer
returns-in-Ok-clause-answer g c =
    rw c.as_str.ensures.value at (scan-had c.args.scan.now.reading c.args.scan.now.listing c.as_str.result.now (string_bytes c.args.scan.now.input)
    (g.F.Opener.sources c.args.files.now) (g.F.Opener.sources c.plan_of.new.files) (g.F.Opener.sources c.scan_input.new.files) c.in-Ok.compiled c.scan_input.result
    (g.W.ByteOut.written c.args.out.now) (g.W.ByteOut.written c.scan_input.new.out) c.in-Ok.ensures.plan c.scan_input.ensures.answer)

-- no plan was made
abbrev stopped : Stop → Result Plan Stop
stopped stop = Err stop

pub returns-in-Err-clause-answer : goal.returns-in-Err-clause-answer
returns-in-Err-clause-answer g c =
    let known = g.F.Opener.sources c.args.files.now in
    let left = g.F.Opener.sources c.plan_of.new.files in
    let reading = c.args.scan.now.reading in
    let stop = c.in-Err.stop in
    rw c.from.ensures.value (scan-stopped reading c.args.scan.now.listing (string_bytes c.args.scan.now.file) (string_bytes c.args.scan.now.input) known left stop (g.W.ByteOut.written c.args.out.now)
    (subst (λ (name : List ℕ). IfKnown known left (λ s l. AreShort s → (l ≡ after (ask_of name) s) × TakesPlan reading Eight name (taken_by (ask_of name) s) (stopped stop))) c.as_str.ensures.value c.in-Err.ensures.plan))
