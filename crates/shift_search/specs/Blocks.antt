-- Blocks of a text: the ends that probes rule out, and which groups and words are noted.
use Rattle.std.specs.Prelude.{◌≡◌, ℕ, ◌+◌, ◌-◌, ◌*◌, ◌<◌, ◌^◌, ◌⊎◌, List, slice_index}
use Rattle.lit_base.specs.NextEnds.{NoEndUpTo}
use Rattle.shift_search.specs.ShiftOr.{Bucketing, RulesOut}

-- a number is one of the first `count`
pub record IsNoted (numbers : List ℕ) (count number : ℕ) : Type 0 where
  pub slot : ℕ
  pub below : slot < count
  pub is : slice_index numbers slot ≡ number

-- `passed` groups of 32 positions: each word rules out ends at eight positions, `carried` those after the groups, and
-- if a literal ends in a group, its number is noted
pub record IsBlock (b : Bucketing) (text : List ℕ) (at passed : ℕ) (words numbers : List ℕ) (count carried : ℕ) : Type 0 where
  pub rules : (word : ℕ) → word < 4 * passed → RulesOut b text (at + 8 * word) (slice_index words word)
  pub numbered : (slot : ℕ) → slot < count → slice_index numbers slot < passed
  pub after : RulesOut b text (at + 32 * passed) carried
  pub noted : (group : ℕ) → group < passed → NoEndUpTo b.literals text (at + 32 * group - 1) (at + 32 * group + 31) ⊎ IsNoted numbers count group

-- a word is noted, or has all its bits
abbrev pub IsNotedUnlessFull : List ℕ → List ℕ → ℕ → ℕ → Type 0
IsNotedUnlessFull words numbers count word = (slice_index words word ≡ 2 ^ 64 - 1) ⊎ IsNoted numbers count word

-- `groups` groups: their words rule out ends, and if a literal ends at one of the eight positions of a word, its number
-- is noted
pub record AreNoted (b : Bucketing) (text : List ℕ) (at groups : ℕ) (words numbers : List ℕ) (count : ℕ) : Type 0 where
  pub rules : (word : ℕ) → word < 4 * groups → RulesOut b text (at + 8 * word) (slice_index words word)
  pub inside : (slot : ℕ) → slot < count → slice_index numbers slot < 4 * groups
  pub noted : (word : ℕ) → word < 4 * groups → NoEndUpTo b.literals text (at + 8 * word - 1) (at + 8 * word + 7) ⊎ IsNoted numbers count word
