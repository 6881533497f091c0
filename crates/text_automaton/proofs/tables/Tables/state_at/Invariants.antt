use Rattle.std.proofs.Common.{◌≡◌, ◌-◌, ◌<◌, length}
use Rattle.text_automaton.specs.Prefixes.{state_after}
use Rattle.text_automaton.proofs.tables.Tables.state_at.Given as goal

-- the state is the one to which the bytes passed lead
abbrev pub invariant-loop-before : goal.invariant-loop-before
invariant-loop-before l = record {
  state : l.state ≡ state_after l.self l.text l.from (l.before - l.from);
  known : l.state < length l.self.parents.items;
}
