-- Places of a list, chained by the hashes of their keys, in their order.
use Rattle.std.specs.Prelude.{◌≡◌, ◌≢◌, ℕ, ◌+◌, ◌^◌, ◌<◌, ◌≤◌, List, length, slice_index}
use Rattle.list_index.specs.declared.suffixes.key_chains.KeyChains.{KeyChains}
use Rattle.list_index.specs.Suffixes.{hash_of}

-- next is the first number from low on with this hash, or count if there is none below count
pub record IsNextWith (hash_at : ℕ → ℕ) (count hash low next : ℕ) : Type 0 where
  pub above : low ≤ next
  pub within : next ≤ count
  pub skipped : (i : ℕ) → low ≤ i → i < next → hash_at i ≢ hash
  pub has : next < count → hash_at next ≡ hash

-- the numbers from low on are chained: each hash has a head, and each number a link to the next of its hash
pub record IsChained (hash_at : ℕ → ℕ) (count low : ℕ) (heads links : List ℕ) : Type 0 where
  pub head : (hash : ℕ) → hash < length heads → IsNextWith hash_at count hash low (slice_index heads hash)
  pub link : (i : ℕ) → low ≤ i → i < count → IsNextWith hash_at count (hash_at i) (i + 1) (slice_index links i)

-- the hashes of keys
abbrev pub hash_at : ℕ → List ℕ → ℕ → ℕ
hash_at bits keys i = hash_of bits (slice_index keys i)

-- all places are chained by the hashes of their keys
pub record AreChained (chains : KeyChains) : Type 0 where
  pub hashed : (0 < chains.bits) × (chains.bits ≤ 32)
  pub heads_len : length chains.heads.items ≡ 2 ^ chains.bits
  pub links_len : length chains.links.items ≡ length chains.keys.items
  pub chained : IsChained (hash_at chains.bits chains.keys.items) (length chains.keys.items) 0 chains.heads.items chains.links.items

-- a walk stands on the chain of a key; from a place on it passed none that is sought
pub record Reaches (chains : KeyChains) (key : ℕ) (Sought : ℕ → Type 0) (from next : ℕ) : Type 0 where
  pub within : next ≤ length chains.keys.items
  pub passed : (place : ℕ) → from ≤ place → place < next → ¬ Sought place
  pub has : next < length chains.keys.items → hash_at chains.bits chains.keys.items next ≡ hash_of chains.bits key
