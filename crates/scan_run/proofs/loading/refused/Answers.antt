-- A prefix of the message was written.
use Rattle.std.proofs.Common.{◌≡◌, ℕ, List, ◌++◌, codes, refl, subst}
use Rattle.byte_io.specs.Transfers.{AppendsPart}
use Rattle.scan_run.specs.Loading.{Cut, message_on}
use Rattle.scan_run.proofs.loading.refused.Goals as goal
use Rattle.scan_run.proofs.loading.refused.Goals.{in-OutOfMemory, in-BadPlanFile, in-ReadFault}

pub returns-in-Err-clause-said : goal.returns-in-Err-clause-said
returns-in-Err-clause-said g c =
    let text : codes "scand: " ++ (c.as_bytes.result.now ++ c.as_bytes-2.result.now) ≡ message_on c.args.name.now c.args.fault =
    elim c.match-fault.branch [
      | in-OutOfMemory w ↦ rw (w.in-OutOfMemory.is, c.as_bytes.ensures.value, c.as_bytes-2.ensures.value, w.reason-is) refl
      | in-BadPlanFile w ↦ rw (w.in-BadPlanFile.is, c.as_bytes.ensures.value, c.as_bytes-2.ensures.value, w.reason-is) refl
      | in-ReadFault w ↦ rw (w.in-ReadFault.is, c.as_bytes.ensures.value, c.as_bytes-2.ensures.value, w.reason-is) refl
    ] in
    Cut refl (subst (λ (t : List ℕ). AppendsPart (g.E.ByteOut.written c.args.err.now) (g.E.ByteOut.written c.say.new.err) t) text c.in-Err.ensures.err)
