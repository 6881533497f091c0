use Rattle.std.proofs.Common.{◌≡◌}
use Rattle.list_index.specs.LongChains.{suffix_hash}
use Rattle.list_index.proofs.suffixes.long_chains.longer_hash.Given as goal

-- the hash of the bytes passed
abbrev pub invariant-loop-back : goal.invariant-loop-back
invariant-loop-back l = l.longer ≡ suffix_hash l.fn.fold l.text l.end l.back
