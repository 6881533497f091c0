use Rattle.std.proofs.Common.{◌≡◌, ◌++◌, ◌∷◌, map, codes, string_bytes, take}
use Rattle.std.specs.List.{join_with_byte}
use Rattle.std.specs.Fmt.{decimal}
use Rattle.lit_cert.proofs.writing.push_ends.Given as goal

abbrev pub invariant-loop-end : goal.invariant-loop-end
invariant-loop-end l = string_bytes l.text ≡ string_bytes l.fn.text ++ join_with_byte 32 (codes "ends" ∷ map decimal (take l.end-index l.end-items))
