use Rattle.std.proofs.Common.{◌≡◌, ◌≤◌, ◌^◌, length}
use Rattle.list_index.specs.KeyChains.{IsChained, hash_at}
use Rattle.list_index.proofs.suffixes.key_chains.KeyChains.new.Given as goal

-- the literals from the last down to this one are chained
abbrev pub invariant-loop-low : goal.invariant-loop-low
invariant-loop-low l = record {
  within : l.low ≤ l.count;
  heads : length l.heads.items ≡ 2 ^ l.bits;
  links : length l.links.items ≡ l.count;
  chained : IsChained (hash_at l.bits l.keys.items) l.count l.low l.heads.items l.links.items;
}

abbrev pub decreases-loop-low : goal.decreases-loop-low
decreases-loop-low l = l.low
