use Rattle.std.proofs.Common.{ℕ, ◌<◌}
use Rattle.text_automaton.specs.Tables.{IsStep}
use Rattle.text_automaton.proofs.tables.Tables.is_row.Given as goal

-- the classes passed lead where they are to lead
abbrev pub invariant-loop-class : goal.invariant-loop-class
invariant-loop-class l = (class : ℕ) → class < l.class → IsStep l.self l.state class
