use Rattle.std.proofs.Common.{◌≡◌, ℕ, ◌<◌, length, slice_index}
use Rattle.list_index.specs.Chains.{key_at}
use Rattle.list_index.proofs.suffixes.chains.keys_of.Given as goal

-- the keys of the literals passed
abbrev pub invariant-loop-place : goal.invariant-loop-place
invariant-loop-place l = record {
  len : length l.keys.items ≡ l.place;
  keyed : (place : ℕ) → place < length l.keys.items → slice_index l.keys.items place ≡ key_at l.list place;
}
