-- Checks by hashes of the last bytes of keys, which give the key widths of the literals that may end at a position.
use Rattle.std.specs.Prelude.{◌≡◌, ℕ, ◌-◌, ◌==◌, ◌<◌, ◌≤◌, if◌then◌else◌, length, max, min}
use Rattle.list_index.specs.declared.suffixes.Suffixes.{Suffixes}
use Rattle.list_index.specs.declared.suffixes.checks.SuffixChecks.{SuffixChecks}
use Rattle.list_index.specs.declared.suffixes.checks.TheConstants.{CHECK_BITS, LEAST_CHECKED}
use Rattle.list_index.specs.Chains.{AreChainsOf, key_width_at}
use Rattle.lit_base.specs.Literals.{Literals, literal_at}
use Rattle.list_index.specs.HashBits.{AreKeyBits}
use Rattle.list_index.specs.Suffixes.{case_bits, last_key}

-- how many bytes of a key are checked: all of eight, and at most `most` of fewer
abbrev pub checked_width : ℕ → ℕ → ℕ
checked_width most width = if width == 8 then width else min width most

-- the key of the checked bytes of the literal at a place
abbrev pub checked_key : Literals → ℕ → ℕ → ℕ
checked_key l most place = last_key l (checked_width most (key_width_at l place)) place

-- the bit of its key width
abbrev pub width_bit : Literals → ℕ → ℕ
width_bit l place = key_width_at l place - 1

-- the last bytes of each literal's key have the bit of the key's width, and nothing else has
pub record AreChecksOf (l : Literals) (checks : SuffixChecks) : Type 0 where
  pub some : 0 < checks.least
  pub narrow : checks.least ≤ 8
  pub most : checks.most ≡ max checks.least LEAST_CHECKED
  pub case : checks.case_bits ≡ case_bits l.folding
  pub wide : (place : ℕ) → place < length l.texts → checks.least ≤ length (literal_at l place)
  pub bits : AreKeyBits CHECK_BITS (checked_key l checks.most) (width_bit l) (length l.texts) checks.widths.items

-- chains and checks of the literals
pub record AreSuffixesOf (l : Literals) (suffixes : Suffixes) : Type 0 where
  pub chains : AreChainsOf l suffixes.chains
  pub checks : AreChecksOf l suffixes.checks
