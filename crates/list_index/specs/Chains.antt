-- The literals of a list, chained by the hash of their keys.
use Rattle.std.specs.Prelude.{◌≡◌, ℕ, ◌-◌, ◌<◌, ◌≤◌, IfSome, List, length, slice_index}
use Rattle.std.specs.Int.{bit_at}
use Rattle.list_index.specs.KeyChains.{AreChained}
use Rattle.list_index.specs.LongChains.{AreLongChainsOf}
use Rattle.list_index.specs.declared.suffixes.chains.SuffixChains.{SuffixChains}
use Rattle.list_index.specs.declared.suffixes.key_chains.KeyChains.{KeyChains}
use Rattle.lit_base.specs.Literals.{Literals, literal_at}
use Rattle.lit_base.specs.Occurrences.{Occurs}
use Rattle.list_index.specs.Suffixes.{key_width, last_key}

-- the key width of the literal at a place
abbrev pub key_width_at : Literals → ℕ → ℕ
key_width_at l place = key_width (length (literal_at l place))

-- the key of the literal at a place
abbrev pub key_at : Literals → ℕ → ℕ
key_at l place = last_key l (key_width_at l place) place

-- all literals are chained, each by its key
pub record AreKeyed (l : Literals) (short : KeyChains) : Type 0 where
  pub len : length short.keys.items ≡ length l.texts
  pub keyed : (place : ℕ) → place < length l.texts → slice_index short.keys.items place ≡ key_at l place
  pub chained : AreChained short

-- and where there are long chains, by more of their last bytes too
pub record AreChainsOf (l : Literals) (chains : SuffixChains) : Type 0 where
  pub short : AreKeyed l chains.short
  pub long : IfSome chains.long (AreLongChainsOf l chains.short)

-- the literal at a place has a key of this width and ends at a position of the text
abbrev pub EndsKeyed : Literals → List ℕ → ℕ → ℕ → ℕ → Type 0
EndsKeyed l text end width place = (key_width_at l place ≡ width) × Occurs l text place end

-- no literal from a place of the list on that has a key of this width ends at a position of the text
abbrev pub NoneKeyedEnds : Literals → List ℕ → ℕ → ℕ → ℕ → Type 0
NoneKeyedEnds l text from end width = (place : ℕ) → from ≤ place → key_width_at l place ≡ width → ¬ Occurs l text place end

-- the first that ends at a position of the text, among the literals from a place of the list on with a key of this
-- width
pub record IsFirstKeyed (l : Literals) (text : List ℕ) (from end width place : ℕ) : Type 0 where
  pub counted : from ≤ place
  pub keyed : key_width_at l place ≡ width
  pub occurs : Occurs l text place end
  pub first : (other : ℕ) → from ≤ other → other < place → key_width_at l other ≡ width → ¬ Occurs l text other end

-- each literal from a place of the list on that ends at a position of the text has the bit of its key width
abbrev pub HaveWidths : Literals → List ℕ → ℕ → ℕ → ℕ → Type 0
HaveWidths l text from end widths = (place : ℕ) → from ≤ place → Occurs l text place end → bit_at widths (key_width_at l place - 1) ≡ 1
