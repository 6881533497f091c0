-- A file that was made shows in the status alone, and a file that was not made in its message.
use Rattle.std.proofs.Common.{List, ℕ, Option, Result, Err, subst}
use Rattle.std.specs.Global.{Global}
use Rattle.std.specs.Prelude.{String, map, string_bytes}
use Rattle.byte_io.specs.Devices.{IfKnown}
use Rattle.byte_io.specs.Sources.{AreShort}
use Rattle.plan_pack.specs.Asking.{AsksAfterReads, pack_asks, pack_reads}
use Rattle.plan_pack.specs.Packing.{PacksFiles}
use Rattle.plan_pack.specs.Stops.{is_starved}
use Rattle.plan_pack.specs.declared.stop.Stop.{Stop}
use Rattle.plan_run.proofs.PackLemmas.{pack-printed, pack-unwritten}
use Rattle.plan_run.proofs.making.answer_pack.Goals as goal

pub returns-in-Ok-clause-answer : goal.returns-in-Ok-clause-answer
returns-in-Ok-clause-answer g c =
    rw (c.names-names.ensures.value, c.as_str-output.ensures.value) at (pack-printed g.F.Output.ByteOut.written g.F.Output.ByteOut.has_failed c.args.request.now.reading c.args.request.now.profile (map string_bytes c.names-names.result.now) c.as_str-output.result.now
    (g.F.Opener.sources c.args.files.now) (g.F.Opener.sources c.pack.new.files) c.in-Ok.field-0 c.in-Ok.ensures.flag c.in-Ok.ensures.packed)

-- no file was made, or it is not whole
abbrev cut : {O : Type 0} → Stop × Option O → Result O (Stop × Option O)
cut stopped = Err stopped

pub returns-clause-answer : goal.returns-clause-answer
returns-clause-answer g c =
    let known = g.F.Opener.sources c.args.files.now in
    let left = g.F.Opener.sources c.pack.new.files in
    let reading = c.args.request.now.reading in
    let profile = c.args.request.now.profile in
    let written = g.F.Output.ByteOut.written in
    let stopped = c.in-Err.unmade in
    let output = string_bytes c.args.request.now.output in
    let named = subst (λ (to : List ℕ). IfKnown known left (λ s l. AreShort s → AsksAfterReads (is_starved stopped.0) (pack_asks reading (map string_bytes c.names-names.result.now) to s) (pack_reads reading (map string_bytes c.names-names.result.now) to s) s l × PacksFiles written reading profile (map string_bytes c.names-names.result.now) to s l (cut stopped))) c.as_str-output.ensures.value c.in-Err.ensures.packed in
    rw c.from.ensures.value (pack-unwritten written g.F.Output.ByteOut.has_failed reading profile (map string_bytes c.args.request.now.files.names.items) output known left stopped c.stop_of.result c.stop_of.ensures c.in-Err.ensures.broken
    (subst (λ (from : List (String Global)). IfKnown known left (λ s l. AreShort s → AsksAfterReads (is_starved stopped.0) (pack_asks reading (map string_bytes from) output s) (pack_reads reading (map string_bytes from) output s) s l × PacksFiles written reading profile (map string_bytes from) output s l (cut stopped))) c.names-names.ensures.value named))
