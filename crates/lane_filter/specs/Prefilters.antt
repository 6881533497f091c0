-- The prefilter of a list, and the positions of a text that it passes.
use Rattle.std.specs.Prelude.{◌≡◌, ℕ, ◌/◌, ◌%◌, ◌<◌, List, length, ◌⊎◌}
use Rattle.lit_base.specs.Literals.{Literals}
use Rattle.nib_mask.specs.Candidates.{GivesFilterSets, IsCandidate}
use Rattle.nib_mask.specs.FilterSet.{filter_set}
use Rattle.nib_mask.specs.Halves.{widened}
use Rattle.nib_mask.specs.Tables.{table_value}
use Rattle.nib_mask.specs.declared.byte_masks.ByteMasks.{ByteMasks}
use Rattle.lane_filter.specs.Pairs.{BytePair, IsPairEnd, IsPairOf}
use Rattle.lane_filter.specs.RareBytes.{IsEndOfByte, IsOnlyByteOf}
use Rattle.lane_filter.specs.Triples.{ByteTriple, IsTripleEnd, IsTripleOf}
use Rattle.lane_filter.specs.declared.rare_byte.RareByte.{RareByte}
use Rattle.lane_filter.specs.declared.prefilter.Prefilter.{Prefilter}
use Rattle.lane_filter.specs.declared.prefilter.Prefilter.TheVariants.{Nibbles, TwoNibbles, OneByte, OneExactByte, OneTriple, OneExactTriple, TwoPairs, TwoExactPairs, ThreePairs, ThreeExactPairs}

-- one of two pairs of bytes, or of three, stands before this position of the text
abbrev pub IsEndOfTwo : BytePair → BytePair → List ℕ → ℕ → Type 0
IsEndOfTwo one two = λ text end. IsPairEnd one text end ⊎ IsPairEnd two text end

abbrev pub IsEndOfThree : BytePair → BytePair → BytePair → List ℕ → ℕ → Type 0
IsEndOfThree one two three = λ text end. IsPairEnd one text end ⊎ IsEndOfTwo two three text end

-- a candidate of one of two tables
abbrev pub IsCandidateOfTwo : ByteMasks → ByteMasks → List ℕ → ℕ → Type 0
IsCandidateOfTwo first last = λ text end. IsCandidate (widened first) text end ⊎ IsCandidate (widened last) text end

-- two tables give the filter sets: the one the first eight buckets of each, the other the rest
abbrev pub GiveFilterSets : Literals → List ℕ → ByteMasks → ByteMasks → Type 0
GiveFilterSets l ends first last =
    (a b c : ℕ) → a < 256 → b < 256 → c < 256
    → (table_value (widened first) a b c ≡ filter_set l ends a b c % 256) × (table_value (widened last) a b c ≡ filter_set l ends a b c / 256)

-- an occurrence may end at this position of the text
abbrev pub Passes : Prefilter → List ℕ → ℕ → Type 0
Passes (Nibbles masks) = IsCandidate (widened masks)
Passes (TwoNibbles first last) = IsCandidateOfTwo first last
Passes (OneByte one) = IsEndOfByte one
Passes (OneExactByte exact) = IsEndOfByte exact.test
Passes (OneTriple triple) = IsTripleEnd triple
Passes (OneExactTriple exact) = IsTripleEnd exact.test
Passes (TwoPairs any) = IsEndOfTwo any.one any.other
Passes (TwoExactPairs any) = IsEndOfTwo any.one.test any.other.test
Passes (ThreePairs any) = IsEndOfThree any.one any.other.one any.other.other
Passes (ThreeExactPairs any) = IsEndOfThree any.one.test any.other.one.test any.other.other.test

-- the byte of the only literal
abbrev pub IsOnlyByte : Literals → RareByte → Type 0
IsOnlyByte l one = (length l.texts ≡ 1) × IsOnlyByteOf l 0 one

-- three bytes of the only literal
abbrev pub IsOneTriple : Literals → ByteTriple → Type 0
IsOneTriple l triple = (length l.texts ≡ 1) × IsTripleOf l 0 triple

-- a pair of bytes of each of two literals, or of three
abbrev pub AreTwoPairs : Literals → BytePair → BytePair → Type 0
AreTwoPairs l one two = (length l.texts ≡ 2) × IsPairOf l 0 one × IsPairOf l 1 two

abbrev pub AreThreePairs : Literals → BytePair → BytePair → BytePair → Type 0
AreThreePairs l one two three = (length l.texts ≡ 3) × IsPairOf l 0 one × IsPairOf l 1 two × IsPairOf l 2 three

-- the prefilter of literals and a cut of them: tables that give their filter sets; or the only literal's byte, or three
-- bytes of it; or two bytes of each of two or three literals
abbrev pub IsPrefilterOf : Literals → List ℕ → Prefilter → Type 0
IsPrefilterOf l ends (Nibbles masks) = GivesFilterSets l ends (widened masks)
IsPrefilterOf l ends (TwoNibbles first last) = GiveFilterSets l ends first last
IsPrefilterOf l ends (OneByte one) = IsOnlyByte l one
IsPrefilterOf l ends (OneExactByte exact) = IsOnlyByte l exact.test
IsPrefilterOf l ends (OneTriple triple) = IsOneTriple l triple
IsPrefilterOf l ends (OneExactTriple exact) = IsOneTriple l exact.test
IsPrefilterOf l ends (TwoPairs any) = AreTwoPairs l any.one any.other
IsPrefilterOf l ends (TwoExactPairs any) = AreTwoPairs l any.one.test any.other.test
IsPrefilterOf l ends (ThreePairs any) = AreThreePairs l any.one any.other.one any.other.other
IsPrefilterOf l ends (ThreeExactPairs any) = AreThreePairs l any.one.test any.other.one.test any.other.other.test
