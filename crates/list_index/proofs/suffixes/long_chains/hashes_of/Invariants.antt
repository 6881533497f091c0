use Rattle.std.proofs.Common.{◌≡◌, ℕ, ◌<◌, length, slice_index}
use Rattle.list_index.specs.LongChains.{last_hash}
use Rattle.list_index.proofs.suffixes.long_chains.hashes_of.Given as goal

-- the hashes of the literals passed
abbrev pub invariant-loop-place : goal.invariant-loop-place
invariant-loop-place l = record {
  len : length l.hashes.items ≡ l.place;
  hashed : (place : ℕ) → place < length l.hashes.items → slice_index l.hashes.items place ≡ last_hash l.list place;
}
