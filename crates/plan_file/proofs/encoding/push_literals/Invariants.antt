use Rattle.std.proofs.Common.{◌≡◌, ◌∷◌, ◌++◌, length, take}
use Rattle.std.specs.Int.{w16, to_be_bytes}
use Rattle.std.specs.List.{flat_map}
use Rattle.lit_base.specs.Flags.{flags_of}
use Rattle.plan_file.specs.Spelling.{literal_text}
use Rattle.plan_file.proofs.encoding.push_literals.Given as goal

abbrev pub invariant-loop-place : goal.invariant-loop-place
invariant-loop-place l =
    l.out.items ≡ l.fn.out.items ++ (flags_of l.list.folding l.fn.profile ∷ (to_be_bytes w16 (length l.list.texts) ++ flat_map literal_text (take l.place l.list.texts)))
