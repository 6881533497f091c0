use Rattle.scan_wire.proofs.StreamLemmas.{gains_then}
use Rattle.scan_wire.proofs.decoder.read_requests.Goals as goal

pub loop-len-preserved : goal.loop-len-preserved
loop-len-preserved c =
    let found = rw c.in-Some.is at c.in_ok-len.ensures.found in
    gains_then c.args.bytes.now c.args.place.now c.loop-len.place _ c.args.out.now.items c.loop-len.out.items c.read_request.new.out.items c.loop-len.invariant found.1
