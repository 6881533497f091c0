use Rattle.std.proofs.Common.{◌≡◌, ◌++◌, take}
use Rattle.std.specs.List.{flat_map}
use Rattle.scan_wire.specs.Numbers.{u16_text}
use Rattle.scan_wire.proofs.encoding.push_ends.Given as goal

abbrev pub invariant-loop-end : goal.invariant-loop-end
invariant-loop-end l = l.out.items ≡ l.fn.out.items ++ flat_map u16_text (take l.end-index l.ends)
