use Rattle.std.proofs.Common.{◌≡◌, ℕ, ◌+◌, ◌<◌, length, slice_index}
use Rattle.text_automaton.specs.Prefixes.{IsRead}
use Rattle.text_automaton.specs.declared.reading.TheConstants.{ROOM}
use Rattle.text_automaton.proofs.tables.Tables.read_rest.Given as goal

-- the states of the positions passed are known
abbrev pub invariant-loop-at : goal.invariant-loop-at
invariant-loop-at l = record {
  room : length l.states ≡ ROOM;
  state : IsRead l.self l.text l.longest (l.start + l.at) l.state;
  states : (at : ℕ) → at < l.at → IsRead l.self l.text l.longest (l.start + at + 1) (slice_index l.states at);
}
