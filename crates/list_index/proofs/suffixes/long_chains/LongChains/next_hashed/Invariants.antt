use Rattle.std.proofs.Common.{◌-◌, length}
use Rattle.list_index.specs.KeyChains.{Reaches}
use Rattle.list_index.specs.LongChains.{EndsHashed}
use Rattle.list_index.proofs.suffixes.long_chains.LongChains.next_hashed.Given as goal

-- the walk is on the chain of the text's hash
abbrev pub invariant-loop-next : goal.invariant-loop-next
invariant-loop-next l = Reaches l.self.hashes l.hash (EndsHashed l.literals l.text l.end l.width) l.from l.next

abbrev pub decreases-loop-next : goal.decreases-loop-next
decreases-loop-next l = length l.self.hashes.keys.items - l.next
