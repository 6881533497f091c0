use Rattle.std.proofs.Common.{◌≡◌, ◌<◌, length}
use Rattle.text_automaton.specs.Tables.{IsPath, prefix_of, state_of}
use Rattle.text_automaton.proofs.tables.Tables.is_spelled.Given as goal

-- each byte passed leads to a longer prefix
abbrev pub invariant-loop-at : goal.invariant-loop-at
invariant-loop-at l = record {
  state : l.state ≡ state_of l.self (prefix_of l.literal l.at);
  known : l.state < length l.self.parents.items;
  path : IsPath l.self (prefix_of l.literal l.at);
}
