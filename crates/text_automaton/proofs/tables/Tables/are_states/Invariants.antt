use Rattle.std.proofs.Common.{ℕ, ◌<◌}
use Rattle.text_automaton.specs.Tables.{IsState}
use Rattle.text_automaton.proofs.tables.Tables.are_states.Given as goal

-- the states passed are right
abbrev pub invariant-loop-state : goal.invariant-loop-state
invariant-loop-state l = (state : ℕ) → state < l.state → IsState l.self l.count state
