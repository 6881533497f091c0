use Rattle.std.proofs.Common.{◌≡◌, ◌≤◌, length}
use Rattle.list_index.specs.LongChains.{AreSkips}
use Rattle.list_index.proofs.suffixes.long_chains.skips_of.Given as goal

-- the literals from the last down to this one have their skips
abbrev pub invariant-loop-low : goal.invariant-loop-low
invariant-loop-low l = record {
  within : l.low ≤ l.count;
  len : length l.skips.items ≡ l.count;
  skips : AreSkips l.list l.short l.low l.skips.items;
}

abbrev pub decreases-loop-low : goal.decreases-loop-low
decreases-loop-low l = l.low
