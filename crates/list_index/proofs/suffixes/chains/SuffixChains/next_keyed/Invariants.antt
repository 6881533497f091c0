use Rattle.std.proofs.Common.{◌-◌, length}
use Rattle.list_index.specs.Chains.{EndsKeyed}
use Rattle.list_index.specs.KeyChains.{Reaches}
use Rattle.list_index.specs.Suffixes.{suffix_key}
use Rattle.list_index.proofs.suffixes.chains.SuffixChains.next_keyed.Given as goal

-- the walk is on the chain of the text's key
abbrev pub invariant-loop-next : goal.invariant-loop-next
invariant-loop-next l = Reaches l.self.short (suffix_key l.literals.folding l.text l.end l.width) (EndsKeyed l.literals l.text l.end l.width) l.from l.next

abbrev pub decreases-loop-next : goal.decreases-loop-next
decreases-loop-next l = length l.self.short.keys.items - l.next
