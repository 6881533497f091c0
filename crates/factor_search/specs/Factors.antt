-- Factors of literals, which have hash bits.
use Rattle.std.specs.Prelude.{◌≡◌, ℕ, ◌+◌, ◌-◌, ◌<◌, ◌≤◌, List, length, slice_index}
use Rattle.std.specs.Int.{bit_at}
use Rattle.lit_base.specs.Literals.{Literals, literal_at}
use Rattle.list_index.specs.HashBits.{AreKeyBits}
use Rattle.list_index.specs.Suffixes.{suffix_key}
use Rattle.lit_base.specs.Occurrences.{Occurs}
use Rattle.factor_search.specs.declared.widths.TheConstants.{HASH_BITS}
use Rattle.factor_search.specs.Widths.{width_at}

-- the value of a `Factors` in contracts: the literals, and how far before its end the factor of each ends
pub record Factored : Type 0 where
  pub literals : Literals
  pub offsets : List ℕ

-- the offset of a literal
abbrev pub offset_at : Factored → ℕ → ℕ
offset_at w place = slice_index w.offsets place

-- the factor of the literal at a place, by its offset, lies within the literal, and within the reach of a byte of hash
-- bits
pub record IsFactor (l : Literals) (place offset : ℕ) : Type 0 where
  pub near : offset < 8
  pub within : offset < length (literal_at l place)
  pub wide : width_at l place + offset ≤ length (literal_at l place)

-- so do the factors of all literals
abbrev pub AreWithin : Factored → Type 0
AreWithin w = (place : ℕ) → place < length w.literals.texts → IsFactor w.literals place (offset_at w place)

-- the hash bits at a position include the end of each literal whose factor ends there; the bit is the distance to the
-- end
abbrev pub AreHashBits : Factored → List ℕ → ℕ → ℕ → Type 0
AreHashBits w text at hash_bits = (place : ℕ) → Occurs w.literals text place (at + offset_at w place) → bit_at hash_bits (offset_at w place) ≡ 1

-- the key of a factor
abbrev pub factor_key : Literals → ℕ → ℕ → ℕ
factor_key l place offset = suffix_key l.folding (literal_at l place) (length (literal_at l place) - offset) (width_at l place)

-- each literal before a place has the hash bit of its factor, and no other bit is set
pub record AreFactorBits (l : Literals) (offsets hash_bits : List ℕ) (count : ℕ) : Type 0 where
  pub offsets_len : length offsets ≡ length l.texts
  pub factors : (place : ℕ) → place < count → IsFactor l place (slice_index offsets place)
  pub bits : AreKeyBits HASH_BITS (λ place. factor_key l place (slice_index offsets place)) (slice_index offsets) count hash_bits
