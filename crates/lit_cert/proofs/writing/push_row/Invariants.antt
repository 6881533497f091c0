use Rattle.std.proofs.Common.{◌≡◌, ◌++◌, ◌∷◌, map, string_bytes, take}
use Rattle.std.specs.List.{join_with_byte}
use Rattle.std.specs.Fmt.{decimal}
use Rattle.lit_cert.proofs.writing.push_row.Given as goal

abbrev pub invariant-loop-potential : goal.invariant-loop-potential
invariant-loop-potential l = string_bytes l.text ≡ string_bytes l.fn.text ++ join_with_byte 32 (decimal l.fn.number ∷ map decimal (take l.potential-index l.row))
