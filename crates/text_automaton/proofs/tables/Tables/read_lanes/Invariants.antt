use Rattle.std.proofs.Common.{◌≡◌, ℕ, ◌+◌, ◌*◌, length, slice_index}
use Rattle.text_automaton.specs.Prefixes.{IsRead}
use Rattle.text_automaton.specs.declared.reading.TheConstants.{ROOM}
use Rattle.text_automaton.proofs.ReadLemmas.{AreDone}
use Rattle.text_automaton.proofs.tables.Tables.read_lanes.Given as goal

-- the states of the positions passed in each lane are known
abbrev pub invariant-lanes : goal.invariant-lanes
invariant-lanes l = record {
  room : length l.states ≡ ROOM;
  first : IsRead l.self l.text l.longest (l.start + l.at) l.first;
  second : IsRead l.self l.text l.longest (l.start + l.lane + l.at) l.second;
  third : IsRead l.self l.text l.longest (l.start + 2 * l.lane + l.at) l.third;
  fourth : IsRead l.self l.text l.longest (l.start + 3 * l.lane + l.at) l.fourth;
  states : (k : ℕ) → AreDone l.lane l.at k → IsRead l.self l.text l.longest (l.start + k + 1) (slice_index l.states k);
}
