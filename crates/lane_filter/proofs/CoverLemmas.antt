-- The prefilter of a list lets every occurrence through.
use Rattle.std.proofs.Common.{◌≡◌, inl, inr, ℕ, ◌+◌, ◌-◌, ◌%◌, ◌<◌, ◌≤◌, List, [], ◌∷◌, All, length, refl, subst, ap, arith}
use Rattle.std.specs.Int.{bit_at}
use Rattle.std.proofs.Math.Pow.{pow_mono}
use Rattle.std.proofs.lemmas.Bool.{cases_eq}
use Rattle.std.proofs.lemmas.Nat.Bits.{bit_at-zero}
use Rattle.std.proofs.lemmas.Option.{slice_get_within}
use Rattle.lit_base.specs.Cuts.{IsCut}
use Rattle.lit_base.specs.Literals.{Literals}
use Rattle.lit_base.specs.Occurrences.{Occurs}
use Rattle.nib_mask.specs.declared.masks.Masks.{Masks}
use Rattle.nib_mask.specs.declared.byte_masks.ByteMasks.{ByteMasks}
use Rattle.nib_mask.specs.Candidates.{CoversBy, GivesFilterSets, filter_number_at, filter_set_at}
use Rattle.nib_mask.specs.FilterSet.{filter_set, passes}
use Rattle.nib_mask.specs.Halves.{GivesPart, widened}
use Rattle.nib_mask.specs.Runs.{bucket_of}
use Rattle.nib_mask.proofs.Buckets.{runs_mask-lt}
use Rattle.nib_mask.proofs.LawLemmas.{bit_at-occurs}
use Rattle.nib_mask.proofs.TableLemmas.{covers-from_set, padded-lt, some-occurs}
use Rattle.lane_filter.specs.Pairs.{BytePair}
use Rattle.lane_filter.specs.Prefilters.{AreThreePairs, AreTwoPairs, GiveFilterSets, IsCandidateOfTwo, IsEndOfThree, IsEndOfTwo, IsPrefilterOf, Passes}
use Rattle.lane_filter.specs.declared.prefilter.Prefilter.{Prefilter}
use Rattle.lane_filter.specs.declared.prefilter.Prefilter.TheVariants.{Nibbles, TwoNibbles, OneByte, OneExactByte, OneTriple, OneExactTriple, TwoPairs, TwoExactPairs, ThreePairs, ThreeExactPairs}
use Rattle.lane_filter.proofs.ByteLemmas.{only_stands, pair_stands, triple_stands}

-- of at most eight buckets the filter sets are bytes
filter_set-lt : (l : Literals) (ends : List ℕ) (a b c : ℕ) → length ends ≤ 8 → filter_set l ends a b c < 256
unfolding filter_set
filter_set-lt l ends a b c few = omega (arith, runs_mask-lt (passes l.folding a b c) l.texts 0 ends, pow_mono {i = length ends} {j = 8} few)

-- so the first half has them all
pub few_sets : (l : Literals) (ends : List ℕ) (masks : Masks) (first : ByteMasks) → length ends ≤ 8 → GivesFilterSets l ends masks → GivesPart (λ n. n % 256) masks first
    → GivesFilterSets l ends (widened first)
few_sets l ends masks first few sets part a b c la lb lc =
    omega (arith, part a b c la lb lc, sets a b c la lb lc, filter_set-lt l ends a b c few)

-- no occurrence goes past both halves of the tables
two_cover : (l : Literals) (ends : List ℕ) (first last : ByteMasks) → IsCut 16 (length l.texts) ends → All (λ t. 0 < length t) l.texts
    → GiveFilterSets l ends first last → CoversBy l (IsCandidateOfTwo first last)
two_cover l ends first last cut nonempty sets text place end bytes occurs =
    let before = 0 ∷ 0 ∷ [] in
    let some = some-occurs l text place end nonempty occurs in
    let within = occurs.ends in
    let set = sets _ _ _ (padded-lt text (end - 1) bytes) (padded-lt text end bytes) (padded-lt text (end + 1) bytes) in
    let bit = bit_at-occurs l ends text before place end cut refl occurs in
    elim (cases_eq (filter_number_at (widened first) before text end) 0) [
      | inl none ↦ inr (record {
        some = some;
        within = within;
        marked = λ empty.
            let zero : filter_set_at l ends before text end ≡ 0 = omega (arith, none, empty, set.0, set.1) in
            omega (arith, bit, ap (λ n. bit_at n (bucket_of ends place)) zero, bit_at-zero (bucket_of ends place));
      })
      | inr marked ↦ inl (record { some = some; within = within; marked = marked })
    ]

-- an occurrence of a literal is one of the literal at another place that is the same
occurs_at : (l : Literals) (text : List ℕ) (place other end : ℕ) → place ≡ other → Occurs l text place end → Occurs l text other end
occurs_at l text place other end same occurs = subst (λ p. Occurs l text p end) same occurs

-- a test of the ends of an only literal misses no occurrence
one_cover : (l : Literals) (P : List ℕ → ℕ → Type 0) → length l.texts ≡ 1 → ((text : List ℕ) (end : ℕ) → Occurs l text 0 end → P text end) → CoversBy l P
one_cover l P alone first text place end bytes occurs =
    let within = slice_get_within l.texts place occurs.literal occurs.stands in
    first text end (occurs_at l text place 0 end (omega (arith, within, alone)) occurs)

two_pairs_cover : (l : Literals) (one two : BytePair) → AreTwoPairs l one two → CoversBy l (IsEndOfTwo one two)
two_pairs_cover l one two are text place end bytes occurs =
    let within = slice_get_within l.texts place occurs.literal occurs.stands in
    elim (cases_eq place 0) [
      | inl same ↦ inl (pair_stands l 0 one are.1 text end (occurs_at l text place 0 end same occurs))
      | inr other ↦ inr (pair_stands l 1 two are.2 text end (occurs_at l text place 1 end (omega (arith, within, other, are.0)) occurs))
    ]

three_pairs_cover : (l : Literals) (one two three : BytePair) → AreThreePairs l one two three → CoversBy l (IsEndOfThree one two three)
three_pairs_cover l one two three are text place end bytes occurs =
    let within = slice_get_within l.texts place occurs.literal occurs.stands in
    elim (cases_eq place 0) [
      | inl same ↦ inl (pair_stands l 0 one are.1 text end (occurs_at l text place 0 end same occurs))
      | inr later ↦ elim (cases_eq place 1) [
        | inl same ↦ inr (inl (pair_stands l 1 two are.2 text end (occurs_at l text place 1 end same occurs)))
        | inr other ↦ inr (inr (pair_stands l 2 three are.3 text end (occurs_at l text place 2 end (omega (arith, within, later, other, are.0)) occurs)))
      ]
    ]

-- the prefilter of literals and a cut of them misses no occurrence
pub prefilter_covers : (l : Literals) (ends : List ℕ) (p : Prefilter) → IsCut 16 (length l.texts) ends → All (λ t. 0 < length t) l.texts → IsPrefilterOf l ends p → CoversBy l (Passes p)
prefilter_covers l ends (Nibbles masks) cut nonempty sets = covers-from_set l ends (widened masks) cut nonempty sets
prefilter_covers l ends (TwoNibbles first last) cut nonempty sets = two_cover l ends first last cut nonempty sets
prefilter_covers l ends (OneByte one) cut nonempty is = one_cover l (Passes (OneByte one)) is.0 (only_stands l 0 one is.1)
prefilter_covers l ends (OneExactByte exact) cut nonempty is = one_cover l (Passes (OneExactByte exact)) is.0 (only_stands l 0 exact.test is.1)
prefilter_covers l ends (OneTriple triple) cut nonempty is = one_cover l (Passes (OneTriple triple)) is.0 (triple_stands l 0 triple is.1)
prefilter_covers l ends (OneExactTriple exact) cut nonempty is = one_cover l (Passes (OneExactTriple exact)) is.0 (triple_stands l 0 exact.test is.1)
prefilter_covers l ends (TwoPairs any) cut nonempty are = two_pairs_cover l any.one any.other are
prefilter_covers l ends (TwoExactPairs any) cut nonempty are = two_pairs_cover l any.one.test any.other.test are
prefilter_covers l ends (ThreePairs any) cut nonempty are = three_pairs_cover l any.one any.other.one any.other.other are
prefilter_covers l ends (ThreeExactPairs any) cut nonempty are = three_pairs_cover l any.one.test any.other.one.test any.other.other.test are
