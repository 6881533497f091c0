use Rattle.std.proofs.Common.{◌≡◌, ◌-◌, ◌≤◌, length}
use Rattle.text_automaton.specs.declared.tables.TheConstants.{MOST_STATES}
use Rattle.text_automaton.proofs.tables.Tables.partition_quiet.Given as goal

-- there is a name for each state
abbrev pub invariant-loop-state : goal.invariant-loop-state
invariant-loop-state l = length l.names ≡ MOST_STATES

-- and both ends of the part not yet ordered are states
abbrev pub invariant-loop-low : goal.invariant-loop-low
invariant-loop-low l = record {
  high : l.high ≤ MOST_STATES;
  names : length l.names ≡ MOST_STATES;
}

abbrev pub decreases-loop-low : goal.decreases-loop-low
decreases-loop-low l = l.high - l.low
