use Rattle.std.proofs.Common.{◌≡◌, ◌++◌, take}
use Rattle.std.specs.List.{flat_map}
use Rattle.plan_view.specs.Quotes.{shown_byte}
use Rattle.plan_view.proofs.quotes.push_shown.Given as goal

-- the bytes so far were appended
abbrev pub invariant-loop-byte : goal.invariant-loop-byte
invariant-loop-byte l = l.text.items ≡ l.fn.text.items ++ flat_map shown_byte (take l.byte-index l.bytes)
