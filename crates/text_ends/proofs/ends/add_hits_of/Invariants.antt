use Rattle.std.proofs.Common.{◌≡◌, ◌+◌, ◌-◌, ◌≤◌, length, take}
use Rattle.text_ends.specs.HitsAfter.{GainsHitsAfter}
use Rattle.text_ends.proofs.ends.add_hits_of.Given as goal

-- the hits added are those up to the place that the walk has come to
abbrev pub invariant-loop-end : goal.invariant-loop-end
invariant-loop-end g l = record {
  literals : (g.E.EndWalk.walk l.ends).literals ≡ (g.E.EndWalk.walk l.fn.ends).literals;
  text : (g.E.EndWalk.walk l.ends).text ≡ l.text;
  ahead : l.from ≤ (g.E.EndWalk.walk l.ends).from;
  within : (g.E.EndWalk.walk l.ends).from ≤ length l.text;
  few : length l.out.items ≤ length l.fn.out.items + (l.most - 1);
  gained : GainsHitsAfter (g.E.EndWalk.walk l.fn.ends).literals (take (g.E.EndWalk.walk l.ends).from l.text) l.from l.at l.fn.out.items l.out.items;
}

abbrev pub decreases-loop-end : goal.decreases-loop-end
decreases-loop-end g l = length l.text - (g.E.EndWalk.walk l.ends).from
