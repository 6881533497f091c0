-- Tables of bits by the hashes of keys.
use Rattle.std.specs.Prelude.{◌≡◌, ℕ, ◌^◌, ◌<◌, ◌⊎◌, List, length, slice_index}
use Rattle.std.specs.Int.{bit_at}
use Rattle.list_index.specs.Suffixes.{hash_of}

-- the byte of a number has a bit
abbrev pub HasBit : List ℕ → ℕ → ℕ → Type 0
HasBit table number bit = bit_at (slice_index table number) bit ≡ 1

-- one bit of a table is set, and no other is changed
pub record IsSet (old new : List ℕ) (number bit : ℕ) : Type 0 where
  pub set : HasBit new number bit
  pub kept : (other place : ℕ) → HasBit old other place → HasBit new other place
  pub only : (other place : ℕ) → HasBit new other place → (HasBit old other place) ⊎ ((other ≡ number) × (place ≡ bit))

-- the number is the hash of the key of one of the first places, and the bit is the bit of that place
pub record IsKeyBit (bits : ℕ) (key_of bit_of : ℕ → ℕ) (count number bit : ℕ) : Type 0 where
  pub place : ℕ
  pub within : place < count
  pub hash : number ≡ hash_of bits (key_of place)
  pub is : bit ≡ bit_of place

-- a table has a byte for each hash. The byte at the hash of the key of each of the first places has the bit of that
-- place, and there is no other bit
pub record AreKeyBits (bits : ℕ) (key_of bit_of : ℕ → ℕ) (count : ℕ) (table : List ℕ) : Type 0 where
  pub room : length table ≡ 2 ^ bits
  pub has : (place : ℕ) → place < count → HasBit table (hash_of bits (key_of place)) (bit_of place)
  pub only : (number bit : ℕ) → HasBit table number bit → IsKeyBit bits key_of bit_of count number bit
