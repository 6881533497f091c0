use Rattle.std.proofs.Common.{◌≡◌, ◌+◌, ◌-◌, ◌≤◌, length, take}
use Rattle.text_ends.specs.HitsAfter.{GainsHitsAfter}
use Rattle.text_search.proofs.end_finder.EndFinderHitSearch.add_spans.Given as goal

-- the hits added are those up to the place reached
abbrev pub invariant-spans : goal.invariant-spans
invariant-spans l = record {
  finder : l.self ≡ l.compiled.literals;
  ahead : l.from ≤ l.place;
  within : l.place ≤ length l.text;
  few : length l.out.items ≤ length l.fn.out.items + (l.most - 1);
  gained : GainsHitsAfter l.compiled.literals (take l.place l.text) l.from l.from l.fn.out.items l.out.items;
}

abbrev pub decreases-spans : goal.decreases-spans
decreases-spans l = length l.text - l.place
