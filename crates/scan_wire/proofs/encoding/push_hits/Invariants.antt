use Rattle.std.proofs.Common.{◌≡◌, ◌++◌, take}
use Rattle.std.specs.List.{flat_map}
use Rattle.scan_wire.specs.Frames.{hit_text}
use Rattle.scan_wire.proofs.encoding.push_hits.Given as goal

abbrev pub invariant-loop-hit : goal.invariant-loop-hit
invariant-loop-hit l = l.out.items ≡ l.fn.out.items ++ flat_map hit_text (take l.hit-index l.hits)
