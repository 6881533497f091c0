-- The input is searched, or it cannot be read.
use Rattle.std.proofs.Common.{◌≡◌, List, ℕ, Result, Err, subst}
use Rattle.std.specs.Global.{Vec}
use Rattle.std.specs.Prelude.{string_bytes}
use Rattle.byte_io.specs.Devices.{IfKnown}
use Rattle.byte_io.specs.Sources.{AreShort, after, ask_of, taken_by}
use Rattle.plan_pack.specs.Taken.{TakesText}
use Rattle.plan_pack.specs.declared.stop.Stop.{Stop}
use Rattle.plan_run.proofs.AnswerLemmas.{input-had, input-stopped}
use Rattle.plan_run.proofs.scanning.scan_input.Goals as goal

pub returns-in-Ok-clause-answer : goal.returns-in-Ok-clause-answer
returns-in-Ok-clause-answer g c =
    rw c.as_str.ensures.value at (input-had c.args.compiled.now.literals c.args.scan.now.listing c.as_str.result.now (g.F.Opener.sources c.args.files.now) (g.F.Opener.sources c.text_of.new.files)
    c.in-Ok.text c.scan_text.result (g.W.ByteOut.written c.args.out.now) (g.W.ByteOut.written c.scan_text.new.out) c.in-Ok.ensures.text (rw c.as_slice.ensures.value at c.scan_text.ensures.answer))

-- no text was read
abbrev stopped : Stop → Result (Vec ℕ) Stop
stopped stop = Err stop

pub returns-in-Err-clause-answer : goal.returns-in-Err-clause-answer
returns-in-Err-clause-answer g c =
    let known = g.F.Opener.sources c.args.files.now in
    let left = g.F.Opener.sources c.text_of.new.files in
    let stop = c.in-Err.stop in
    rw c.from.ensures.value (input-stopped c.args.compiled.now.literals c.args.scan.now.listing (string_bytes c.args.scan.now.input) known left stop (g.W.ByteOut.written c.args.out.now)
    (subst (λ (name : List ℕ). IfKnown known left (λ s l. AreShort s → (l ≡ after (ask_of name) s) × TakesText name (taken_by (ask_of name) s) (stopped stop))) c.as_str.ensures.value c.in-Err.ensures.text))
