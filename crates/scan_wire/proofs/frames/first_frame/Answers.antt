use Rattle.std.proofs.Common.{arith, ap, length}
use Rattle.std.proofs.lemmas.List.{length-take}
use Rattle.scan_wire.proofs.FrameLemmas.{cut_short, not_short, starts_or_waits, waits_cut, waits_short}
use Rattle.scan_wire.proofs.frames.first_frame.Goals as goal

pub returns-in_default-clause-found : goal.returns-in_default-clause-found
returns-in_default-clause-found c = waits_short c.args.bytes.now c.in_default.ensures.none

pub returns-then-rest-len-clause-found : goal.returns-then-rest-len-clause-found
returns-then-rest-len-clause-found c = waits_cut c.args.bytes.now c.in-Some.len c.in-Some.rest.now c.in-Some.ensures.found.0 c.in-Some.ensures.found.1 (omega arith) (omega arith) (omega arith)

pub returns-then-rest-len-clause-short : goal.returns-then-rest-len-clause-short
returns-then-rest-len-clause-short c = cut_short c.args.bytes.now c.in-Some.len c.in-Some.rest.now c.in-Some.ensures.found.1 (omega arith) (omega arith)

pub returns-clause-found : goal.returns-clause-found
returns-clause-found c = starts_or_waits c.args.bytes.now c.in-Some.len c.in-Some.rest.now c.split_at.result.0.now c.frame_of.result c.in-Some.ensures.found.1 (omega arith) (omega arith) (omega arith) c.split_at.ensures.front c.frame_of.ensures.found c.frame_of.ensures.none

pub returns-clause-short : goal.returns-clause-short
returns-clause-short c = not_short _ c.frame_of.result c.split_at.result.0.now (omega (arith, ap length c.split_at.ensures.front, length-take c.in-Some.len c.in-Some.rest.now)) c.frame_of.ensures.none
