-- The literals of a list, chained by the hash of more of their last bytes than a key has.
use Rattle.std.specs.Prelude.{◌≡◌, ℕ, zero, suc, ◌+◌, ◌-◌, ◌*◌, ◌%◌, ◌<◌, ◌≤◌, min, List, length, slice_index}
use Rattle.std.specs.Int.RustNames.{bit_or}
use Rattle.list_index.specs.KeyChains.{AreChained, hash_at}
use Rattle.list_index.specs.Suffixes.{case_bits}
use Rattle.list_index.specs.declared.suffixes.key_chains.KeyChains.{KeyChains}
use Rattle.list_index.specs.declared.suffixes.long_chains.LongChains.{LongChains}
use Rattle.list_index.specs.declared.suffixes.long_chains.TheConstants.{MOST_HASHED}
use Rattle.lit_base.specs.declared.fold.Fold.{Fold}
use Rattle.lit_base.specs.Literals.{Literals, literal_at}
use Rattle.lit_base.specs.Occurrences.{Occurs}

-- the hash of some bytes before a position of a text, without the case of letters, from the last byte on
unfoldable pub suffix_hash : Fold → List ℕ → ℕ → ℕ → ℕ
suffix_hash fold text end zero = 1
suffix_hash fold text end (suc n) = (suffix_hash fold text end n * 11400714819323198485 % 18446744073709551616 + bit_or (slice_index text (end - 1 - n)) (case_bits fold)) % 18446744073709551616

-- how many of its last bytes a literal is hashed by
abbrev pub hashed_width : ℕ → ℕ
hashed_width len = min len MOST_HASHED

-- and the literal at a place
abbrev pub hashed_width_at : Literals → ℕ → ℕ
hashed_width_at l place = hashed_width (length (literal_at l place))

-- the hash of the last bytes of the literal at a place
abbrev pub last_hash : Literals → ℕ → ℕ
last_hash l place = suffix_hash l.folding (literal_at l place) (length (literal_at l place)) (hashed_width_at l place)

-- next is a later number with this one's hash, or count; those between that have the hash have one width
pub record IsSkip (hash_at width_at : ℕ → ℕ) (count i next : ℕ) : Type 0 where
  pub above : i < next
  pub within : next ≤ count
  pub skipped : (j : ℕ) → i < j → j < next → hash_at j ≡ hash_at i → width_at j ≡ width_at i
  pub has : next < count → hash_at next ≡ hash_at i

-- the literals from a place of the list on have skips along the chains of their keys
abbrev pub AreSkips : Literals → KeyChains → ℕ → List ℕ → Type 0
AreSkips l short low skips = (i : ℕ) → low ≤ i → i < length l.texts → IsSkip (hash_at short.bits short.keys.items) (hashed_width_at l) (length l.texts) i (slice_index skips i)

-- all literals are chained, each by the hash of its last bytes
pub record AreHashed (l : Literals) (hashes : KeyChains) : Type 0 where
  pub len : length hashes.keys.items ≡ length l.texts
  pub hashed : (place : ℕ) → place < length l.texts → slice_index hashes.keys.items place ≡ last_hash l place
  pub chained : AreChained hashes

-- and have skips along the chains of their keys
pub record AreLongChainsOf (l : Literals) (short : KeyChains) (long : LongChains) : Type 0 where
  pub hashes : AreHashed l long.hashes
  pub skips_len : length long.skips.items ≡ length l.texts
  pub skips : AreSkips l short 0 long.skips.items

-- the literal at a place is hashed by so many bytes and ends at a position of the text
abbrev pub EndsHashed : Literals → List ℕ → ℕ → ℕ → ℕ → Type 0
EndsHashed l text end width place = (hashed_width_at l place ≡ width) × Occurs l text place end

-- no literal from a place of the list on that is hashed by so many bytes ends at a position of the text
abbrev pub NoneHashedEnds : Literals → List ℕ → ℕ → ℕ → ℕ → Type 0
NoneHashedEnds l text from end width = (place : ℕ) → from ≤ place → ¬ EndsHashed l text end width place

-- the first that ends at a position of the text, among those from a place of the list on that are hashed by so many
-- bytes
pub record IsFirstHashed (l : Literals) (text : List ℕ) (from end width place : ℕ) : Type 0 where
  pub counted : from ≤ place
  pub ends : EndsHashed l text end width place
  pub first : (other : ℕ) → from ≤ other → other < place → ¬ EndsHashed l text end width other
