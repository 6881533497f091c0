use Rattle.std.proofs.Common.{◌-◌, length}
use Rattle.scan_wire.specs.Reading.{GainsRequests}
use Rattle.scan_wire.proofs.decoder.read_requests.Given as goal

abbrev pub invariant-loop-len : goal.invariant-loop-len
invariant-loop-len l = GainsRequests l.bytes l.fn.place l.place l.fn.out.items l.out.items

abbrev pub decreases-loop-len : goal.decreases-loop-len
decreases-loop-len l = length l.bytes - l.place
