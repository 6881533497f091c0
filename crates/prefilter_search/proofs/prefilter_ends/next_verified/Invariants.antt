use Rattle.std.proofs.Common.{◌≡◌, ℕ, ◌-◌, ◌<◌, ◌≤◌, length}
use Rattle.lit_base.specs.Occurrences.{HasEnd}
use Rattle.prefilter_search.proofs.prefilter_ends.next_verified.Given as goal

-- no literal ends at the positions passed
abbrev pub invariant-loop-end : goal.invariant-loop-end
invariant-loop-end l = record {
  prefilter : l.candidates.prefilter ≡ l.fn.candidates.prefilter;
  text : l.candidates.text ≡ l.text;
  ahead : l.fn.candidates.from ≤ l.candidates.from;
  none : (other : ℕ) → l.fn.candidates.from < other → other ≤ l.candidates.from → ¬ HasEnd l.list l.text other;
}

abbrev pub decreases-loop-end : goal.decreases-loop-end
decreases-loop-end l = length l.text - l.candidates.from
