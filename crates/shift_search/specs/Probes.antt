-- The state of a search by shift-or: the ends that are not ruled out at eight positions in a row, and the ends that are
-- ruled out after them.
use Rattle.std.specs.Prelude.{◌≡◌, ℕ, ◌+◌, ◌-◌, ◌*◌, ◌/◌, ◌<◌, ◌≤◌, List, MatchOption, Option, length, max}
use Rattle.std.specs.Int.{bit_at}
use Rattle.lit_base.specs.Occurrences.{Occurs}
use Rattle.lit_base.specs.NextEnds.{IsFirstFound, NoEndUpTo}
use Rattle.shift_search.specs.ShiftOr.{Bucketing, RulesOut, bucket_at}
use Rattle.shift_search.specs.declared.probes.Probes.{Probes}
use Rattle.shift_search.specs.declared.probes.Verified.{Verified}
use Rattle.shift_search.specs.declared.shift_or.TheConstants.{UNPROBED}

-- the state of a search for ends after `from`: none lies before the eight positions, each among them has its bit, no
-- bit stands for a position up to `from`, and `carried` rules out ends at the next eight positions
pub record AreProbes (b : Bucketing) (text : List ℕ) (from : ℕ) (probes : Probes) : Type 0 where
  pub some : 8 ≤ probes.at
  pub near : from ≤ probes.at + 7
  pub inside : 0 < probes.unruled → probes.at + 7 ≤ length text
  pub within : probes.at + 7 ≤ max from (length text)
  pub later : (bit : ℕ) → bit_at probes.unruled bit ≡ 1 → from < probes.at + bit / 8
  pub none : NoEndUpTo b.literals text from (probes.at - 1)
  pub unruled : (place ahead : ℕ) → ahead < 8 → from < probes.at + ahead → Occurs b.literals text place (probes.at + ahead) → bit_at probes.unruled (8 * ahead + bucket_at b.buckets place) ≡ 1
  pub carried : RulesOut b text (probes.at + 8) probes.carried

-- the state of a search after a position, or after the start of the text that is searched without probes
abbrev pub AreProbesAfter : Bucketing → List ℕ → ℕ → Probes → Type 0
AreProbesAfter b text from probes = AreProbes b text (max from UNPROBED) probes

-- the first end after a position, with the first literal that ends there and the state of a search after it
pub record IsVerified (b : Bucketing) (text : List ℕ) (from : ℕ) (found : Verified) : Type 0 where
  pub first : IsFirstFound b.literals text from found.end found.first
  pub probes : AreProbes b text found.end found.probes

-- what a search finds after a position and up to another one
abbrev pub FindsVerified : Bucketing → List ℕ → ℕ → ℕ → Option Verified → Type 0
FindsVerified b text from last found = MatchOption found (NoEndUpTo b.literals text from last) (IsVerified b text from)

-- nothing ends after a position and up to seven positions after another one, and `carried` rules out ends at the next
-- eight
pub record IsPassed (b : Bucketing) (text : List ℕ) (from at carried : ℕ) : Type 0 where
  pub some : 8 ≤ at
  pub near : from ≤ at + 7
  pub within : at + 7 ≤ max from (length text)
  pub none : NoEndUpTo b.literals text from (at + 7)
  pub rules : RulesOut b text (at + 8) carried
