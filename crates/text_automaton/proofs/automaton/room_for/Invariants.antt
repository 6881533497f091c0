use Rattle.std.proofs.Common.{◌≡◌, ◌+◌, length, min, take}
use Rattle.std.specs.List.{sum_by}
use Rattle.text_automaton.specs.declared.tables.TheConstants.{MOST_STATES}
use Rattle.text_automaton.proofs.automaton.room_for.Given as goal

-- there is room for the literals passed
abbrev pub invariant-loop-place : goal.invariant-loop-place
invariant-loop-place l = l.room ≡ min MOST_STATES (sum_by length (take l.place l.list.texts) + 1)
