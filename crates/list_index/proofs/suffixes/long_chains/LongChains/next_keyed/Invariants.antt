use Rattle.std.proofs.Common.{◌≡◌, ◌<◌, ◌≤◌, ◌-◌, length}
use Rattle.list_index.specs.Chains.{EndsKeyed}
use Rattle.list_index.specs.KeyChains.{Reaches}
use Rattle.list_index.specs.LongChains.{hashed_width_at, suffix_hash}
use Rattle.list_index.specs.Suffixes.{suffix_key}
use Rattle.list_index.proofs.suffixes.long_chains.LongChains.next_keyed.Given as goal

-- the walk is on the chain of the text's key, and no further than the bytes hashed
abbrev pub invariant-loop-next : goal.invariant-loop-next
invariant-loop-next l = record {
  reached : Reaches l.short (suffix_key l.literals.folding l.text l.end 8) (EndsKeyed l.literals l.text l.end 8) l.from l.next;
  narrower : l.next < length l.literals.texts → l.hashed ≤ hashed_width_at l.literals l.next;
  hash : l.hash ≡ suffix_hash l.literals.folding l.text l.end l.hashed;
}

abbrev pub decreases-loop-next : goal.decreases-loop-next
decreases-loop-next l = length l.literals.texts - l.next
