use Rattle.std.proofs.Common.{ℕ, ◌<◌}
use Rattle.text_automaton.specs.Tables.{IsSpelled}
use Rattle.text_automaton.proofs.tables.Tables.are_spelled.Given as goal

-- the literals passed are spelled
abbrev pub invariant-loop-place : goal.invariant-loop-place
invariant-loop-place l = (place : ℕ) → place < l.place → IsSpelled l.self l.list place
