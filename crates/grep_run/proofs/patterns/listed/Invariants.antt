use Rattle.std.proofs.Common.{All, ◌≡◌, [], map, string_bytes, take, drop}
use Rattle.lit_base.specs.Lines.{IsOnePiece}
use Rattle.grep_run.specs.Patterns.{lists_refusal, patterns_in}
use Rattle.grep_run.proofs.patterns.listed.Given as goal

-- the patterns of the lists so far are there, hold no newline, and a later refusal comes after them
abbrev pub invariant-loop-list : goal.invariant-loop-list
invariant-loop-list l =
    All IsOnePiece l.patterns
    × (l.patterns ≡ patterns_in (map string_bytes (take l.list-index l.lists)))
    × (lists_refusal [] (map string_bytes l.lists) ≡ lists_refusal l.patterns (map string_bytes (drop l.list-index l.lists)))
