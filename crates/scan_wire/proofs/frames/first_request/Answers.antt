use Rattle.std.proofs.Common.{ℕ, ◌+◌, List, length, drop}
use Rattle.std.proofs.lemmas.Result.{err_from_is_err_and}
use Rattle.scan_wire.specs.Causes.{BeginsWithList, TakesMemory}
use Rattle.scan_wire.specs.Frames.{FrameParts}
use Rattle.scan_wire.specs.Reading.{StartsWithFrame, parts_of}
use Rattle.scan_wire.proofs.frames.first_request.Goals as goal

-- a list at the start, from its frame
begins_list : (text : List ℕ) (f : FrameParts) → StartsWithFrame text f → TakesMemory f → BeginsWithList text
begins_list text f s takes = record {
  prefix = record { frame = f; rest = drop (9 + length f.payload) text; is_frame = s.is_frame; text_is = s.text_is };
  takes = takes;
}

pub returns-in_err-request-in-Ok-Some-clause-starved : goal.returns-in_err-request-in-Ok-Some-clause-starved
returns-in_err-request-in-Ok-Some-clause-starved c = λ e.
    let p = err_from_is_err_and c.from_residual.result c.from_residual.ensures.1 in
    let is = p.1 in
    let from = p.2 in
    let found = rw c.in-Ok-Some.field-0-is at c.in-Ok-Some.ensures.found in
    begins_list c.args.bytes.now (parts_of c.in-Ok-Some.frame) found (c.in_err-request-in-Ok-Some.ensures.starved (cc))
