use Rattle.std.proofs.Common.{ℕ, ◌+◌, ◌-◌, ◌<◌, ◌≤◌, length}
use Rattle.lit_base.specs.Occurrences.{HasEnd}
use Rattle.text_automaton.specs.Automata.{IsReading, place_of}
use Rattle.text_automaton.proofs.automaton.Automaton.next_with_state.Given as goal

-- nothing ends at the positions passed
abbrev pub invariant-reads : goal.invariant-reads
invariant-reads l = record {
  reading : IsReading l.self l.text l.reading;
  after : place_of l.fn.reading ≤ place_of l.reading;
  none : (end : ℕ) → place_of l.fn.reading < end → end ≤ place_of l.reading → ¬ HasEnd l.self.literals l.text end;
}

abbrev pub decreases-reads : goal.decreases-reads
decreases-reads l = length l.text - (l.reading.start + l.reading.count)
