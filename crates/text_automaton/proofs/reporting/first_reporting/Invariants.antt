use Rattle.std.proofs.Common.{ℕ, ◌+◌, ◌-◌, ◌<◌, ◌≤◌, slice_index}
use Rattle.text_automaton.proofs.reporting.first_reporting.Given as goal

-- the states passed have no output
abbrev pub invariant-chunks : goal.invariant-chunks
invariant-chunks l = record {
  after : l.from ≤ l.at;
  within : l.at < l.count + 32;
  none : (at : ℕ) → l.from ≤ at → at < l.at → slice_index l.states at < l.quiet;
}

abbrev pub decreases-chunks : goal.decreases-chunks
decreases-chunks l = l.count - l.at
