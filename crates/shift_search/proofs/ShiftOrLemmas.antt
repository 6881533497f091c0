-- Shift-or: the ends that are ruled out, block by block, and where nothing ends.
use Rattle.std.proofs.Common.{◌≡◌, ◌↔◌, ℕ, zero, suc, ◌+◌, ◌-◌, ◌*◌, ◌/◌, ◌%◌, ◌^◌, ◌<◌, ◌≤◌, ◌++◌, List, [], ◌∷◌, Option, None, Some, get_or, length, replicate, inl, inr, sym, ap, ◌∙◌, subst, arith, shr-shr, w64}
use Rattle.std.specs.Int.{bit_at, bit_not}
use Rattle.std.specs.List.{slice_index, slice_range}
use Rattle.std.specs.Int.RustNames.{bit_and, bit_or}
use Rattle.std.proofs.lemmas.Bool.{cases_eq, cases_lt}
use Rattle.std.proofs.lemmas.Nat.Bits.{bit_at_above, bit_at_and, bit_at-lt, bit_at_cat_high, bit_at_cat_low, bit_at_not, bit_at_ones, bit_at_or, bit_at-zero, same_from_bits}
use Rattle.std.proofs.lemmas.Nat.{and_le_l, or_shr, pow_pos}
use Rattle.std.proofs.lemmas.Option.{slice_get_within}
use Rattle.std.specs.Simd.Lanes.{Each1}
use Rattle.std.proofs.Common.{Fits}
use Rattle.std.proofs.Math.Facts.{Fits-lt-pow}
use Rattle.std.proofs.lemmas.List.Edits.{length-between}
use Rattle.std.proofs.lemmas.Simd.{Each1-get_or}
use Rattle.nib_mask.proofs.Ranges.{get_or-range}
use Rattle.lane_filter.specs.Bits.{SplitsLowest}
use Rattle.lit_base.specs.declared.fold.Fold.{Fold}
use Rattle.lit_base.specs.declared.fold.Fold.TheVariants.{No, Ascii}
use Rattle.lit_base.specs.Literals.{Literals, literal_at}
use Rattle.lit_base.specs.Occurrences.{HasEnd, IsFirstEnding, NoneEnds, Occurs}
use Rattle.text_ends.proofs.EndLemmas.{none_joined}
use Rattle.list_index.specs.Suffixes.{case_bits, spelled, suffix_key}
use Rattle.list_index.proofs.SuffixLemmas.{AreBytes, drop-range, key-occurs_inside, range_bytes, spelled-drop, zeros_bytes}
use Rattle.shift_search.specs.Probes.{AreProbes, FindsVerified, IsVerified}
use Rattle.lit_base.specs.NextEnds.{IsFirstFound, NoEndUpTo}
use Rattle.shift_search.specs.ShiftOr.{AreEntriesOf, Bucketing, FitsPair, NoneOf, RulesOut, RulesOutWords, bucket_at, last_number_at, number_at, pair_case_bits}
use Rattle.shift_search.specs.declared.probes.Probes.{Probes}
use Rattle.shift_search.specs.declared.probes.Verified.{Verified}

-- there are eight buckets
pub few_buckets : (buckets : List ℕ) (place : ℕ) → bucket_at buckets place < 8
few_buckets buckets place = omega arith

-- the low bits of a number and of its remainder are the same
low_bit : (n k i : ℕ) → i < k → bit_at (n % 2 ^ k) i ≡ bit_at n i
low_bit n k i small =
    let whole : n ≡ n / 2 ^ k * 2 ^ k + n % 2 ^ k = omega arith in
    sym (ap (λ x. bit_at x i) whole ∙ bit_at_cat_low (n / 2 ^ k) k (n % 2 ^ k) i small)

-- shifted up, a word has no bits below the shift
moved_low : (word count bit : ℕ) → bit < 64 → bit < count → bit_at (word * 2 ^ count % 2 ^ 64) bit ≡ 0
moved_low word count bit small below =
    let plain : word * 2 ^ count ≡ word * 2 ^ count + 0 = omega arith in
    low_bit (word * 2 ^ count) 64 bit small ∙ ap (λ n. bit_at n bit) plain ∙ bit_at_cat_low word count 0 bit below ∙ bit_at-zero bit

-- and its own above
moved_high : (word count bit : ℕ) → bit < 64 → count ≤ bit → bit_at (word * 2 ^ count % 2 ^ 64) bit ≡ bit_at word (bit - count)
moved_high word count bit small above =
    let plain : word * 2 ^ count ≡ word * 2 ^ count + 0 = omega arith in
    low_bit (word * 2 ^ count) 64 bit small ∙ ap (λ n. bit_at n bit) plain ∙ bit_at_cat_high word count 0 bit (pow_pos count) above

-- a word that rules out ends from a later position on, shifted up by as many bytes, rules out ends from the first
-- position on
pub ruled_here : (b : Bucketing) (text : List ℕ) (at further word : ℕ) → further < 8 → RulesOut b text (at + further) word → RulesOut b text at (word * 2 ^ (8 * further) % 2 ^ 64)
ruled_here b text at further word close rules place ahead near occurs =
    let bucket : ℕ = bucket_at b.buckets place in
    let bit : ℕ = 8 * ahead + bucket in
    let small : bit < 64 = omega (arith, near, few_buckets b.buckets place) in
    elim (cases_lt ahead further) [
      | inl before ↦ moved_low word (8 * further) bit small (omega (arith, before, few_buckets b.buckets place))
      | inr after ↦
          let back : bit - 8 * further ≡ 8 * (ahead - further) + bucket = omega (arith, after) in
          let there : at + ahead ≡ at + further + (ahead - further) = omega (arith, after) in
          moved_high word (8 * further) bit small (omega (arith, after)) ∙ ap (bit_at word) back ∙ rules place (ahead - further) (omega (arith, near)) (subst (Occurs b.literals text place) there occurs)
    ]

-- and the bytes shifted past its last byte rule out ends from eight positions further on
pub ruled_after : (b : Bucketing) (text : List ℕ) (at further word : ℕ) → further < 8 → word < 2 ^ 64 → RulesOut b text (at + further) word → RulesOut b text (at + 8) (word / 2 ^ (64 - 8 * further))
ruled_after b text at further word close fits rules place ahead near occurs =
    let bucket : ℕ = bucket_at b.buckets place in
    let count : ℕ = 64 - 8 * further in
    let bit : ℕ = 8 * ahead + bucket in
    ap (λ x. x % 2) (shr-shr word count bit) ∙ elim (cases_lt ahead further) [
      | inl before ↦
          let back : count + bit ≡ 8 * (8 - further + ahead) + bucket = omega (arith, close) in
          let there : at + 8 + ahead ≡ at + further + (8 - further + ahead) = omega (arith, close) in
          ap (bit_at word) back ∙ rules place (8 - further + ahead) (omega (arith, before, close)) (subst (Occurs b.literals text place) there occurs)
      | inr past ↦ bit_at_above word 64 (count + bit) fits (omega (arith, past, close))
    ]

-- two words together rule out what either does
pub ruled_joined : (b : Bucketing) (text : List ℕ) (at word other : ℕ) → RulesOut b text at word → RulesOut b text at other → RulesOut b text at (bit_or word other)
ruled_joined b text at word other one two place ahead near occurs =
    let bit : ℕ = 8 * ahead + bucket_at b.buckets place in
    omega (arith, bit_at_or word other bit, one place ahead near occurs, two place ahead near occurs)

-- so do four words with four others
pub words_joined : (b : Bucketing) (text : List ℕ) (at : ℕ) (words others both : List ℕ) → ((i : ℕ) → i < 4 → slice_index both i ≡ bit_or (slice_index words i) (slice_index others i)) → RulesOutWords b text at words → RulesOutWords b text at others → RulesOutWords b text at both
words_joined b text at words others both is one two i four = subst (RulesOut b text (at + 8 * i)) (sym (is i four)) (ruled_joined b text (at + 8 * i) (slice_index words i) (slice_index others i) (one i four) (two i four))

-- and four shifted words, at their own positions
pub words_here : (b : Bucketing) (text : List ℕ) (at further : ℕ) (words moved : List ℕ) → further < 8 → ((i : ℕ) → i < 4 → slice_index moved i ≡ slice_index words i * 2 ^ (8 * further) % 2 ^ 64) → RulesOutWords b text (at + further) words → RulesOutWords b text at moved
words_here b text at further words moved close is rules i four =
    let there : at + further + 8 * i ≡ at + 8 * i + further = omega arith in
    subst (RulesOut b text (at + 8 * i)) (sym (is i four)) (ruled_here b text (at + 8 * i) further (slice_index words i) close (subst (λ p. RulesOut b text p (slice_index words i)) there (rules i four)))

-- and after these positions
pub words_after : (b : Bucketing) (text : List ℕ) (at further : ℕ) (words moved : List ℕ) → further < 8 → ((i : ℕ) → i < 4 → slice_index words i < 2 ^ 64) → ((i : ℕ) → i < 4 → slice_index moved i ≡ slice_index words i / 2 ^ (64 - 8 * further)) → RulesOutWords b text (at + further) words → RulesOutWords b text (at + 8) moved
words_after b text at further words moved close fits is rules i four =
    let there : at + further + 8 * i ≡ at + 8 * i + further = omega arith in
    let eight : at + 8 * i + 8 ≡ at + 8 + 8 * i = omega arith in
    subst (RulesOut b text (at + 8 + 8 * i)) (sym (is i four)) (subst (λ p. RulesOut b text p (slice_index words i / 2 ^ (64 - 8 * further))) eight
    (ruled_after b text (at + 8 * i) further (slice_index words i) close (fits i four) (subst (λ p. RulesOut b text p (slice_index words i)) there (rules i four))))

-- four words rule out ends after their positions: each at the positions of the next word, and the last of four earlier
-- words at the positions of the first
pub words_next : (b : Bucketing) (text : List ℕ) (at : ℕ) (before after next : List ℕ) → slice_index next 0 ≡ slice_index before 3 → ((i : ℕ) → i < 3 → slice_index next (i + 1) ≡ slice_index after i) → RulesOut b text at (slice_index before 3) → RulesOutWords b text (at + 8) after → RulesOutWords b text at next
words_next b text at before after next first others rules later zero four =
    let here : at ≡ at + 8 * 0 = omega arith in
    subst (λ p. RulesOut b text p (slice_index next 0)) here (subst (RulesOut b text at) (sym first) rules)
words_next b text at before after next first others rules later (suc i) four =
    let there : at + 8 + 8 * i ≡ at + 8 * suc i = omega arith in
    let place : i + 1 ≡ suc i = omega arith in
    let is : slice_index next (suc i) ≡ slice_index after i = ap (slice_index next) (sym place) ∙ others i (omega (arith, four)) in
    subst (RulesOut b text (at + 8 * suc i)) (sym is) (subst (λ p. RulesOut b text p (slice_index after i)) there (later i (omega (arith, four))))

-- four words that rule out ends from positions eight apart
pub words_of : (b : Bucketing) (text : List ℕ) (at first second third fourth : ℕ) → RulesOut b text at first → RulesOut b text (at + 8) second → RulesOut b text (at + 16) third → RulesOut b text (at + 24) fourth → RulesOutWords b text at (first ∷ second ∷ third ∷ fourth ∷ [])
words_of b text at first second third fourth one two three four zero below = let here : at ≡ at + 8 * 0 = omega arith in subst (λ p. RulesOut b text p first) here one
words_of b text at first second third fourth one two three four (suc zero) below = two
words_of b text at first second third fourth one two three four (suc (suc zero)) below = three
words_of b text at first second third fourth one two three four (suc (suc (suc zero))) below = four
words_of b text at first second third fourth one two three four (suc (suc (suc (suc i)))) below = absurd (omega (arith, below))

-- each of four words fits in 64 bits
pub word_fits : (words : List ℕ) → length words ≡ 4 → Each1 (Fits w64) words → (i : ℕ) → i < 4 → slice_index words i < 2 ^ 64
word_fits words long fits i four = Fits-lt-pow (Each1-get_or (Fits w64) words i 0 (omega (arith, long, four)) fits)

-- the words after each of four words, the last of them another one, rule out ends from eight positions further on
abbrev pub with_one_after : List ℕ → ℕ → List ℕ
with_one_after words after = slice_index words 1 ∷ slice_index words 2 ∷ slice_index words 3 ∷ after ∷ []

later_words : (b : Bucketing) (text : List ℕ) (at after : ℕ) (words : List ℕ) → RulesOutWords b text at words → RulesOut b text (at + 32) after → (i : ℕ) → i < 4
    → RulesOut b text (at + 8 * (i + 1)) (slice_index (with_one_after words after) i)
later_words b text at after words rules last zero below = rules 1 (omega arith)
later_words b text at after words rules last (suc zero) below = rules 2 (omega arith)
later_words b text at after words rules last (suc (suc zero)) below = rules 3 (omega arith)
later_words b text at after words rules last (suc (suc (suc zero))) below = last
later_words b text at after words rules last (suc (suc (suc (suc i)))) below = absurd (omega (arith, below))

-- a bit of a number of four bits
pub low_of_four : (n low : ℕ) → n < 16 → bit_at n low ≡ 1 → low < 4
low_of_four n low small set = elim (cases_lt low 4) [
  | inl below ↦ below
  | inr above ↦ absurd (omega (arith, set, bit_at_above n 4 low (omega (arith, small)) above))
]

-- where a word has all its bits, nothing ends at its positions
pub none_of_word : (b : Bucketing) (text : List ℕ) (at word : ℕ) → 8 ≤ at → RulesOut b text at word → word ≡ 2 ^ 64 - 1 → NoEndUpTo b.literals text (at - 1) (at + 7)
none_of_word b text at word some rules full end beyond within here =
    let ahead : ℕ = end - at in
    let near : ahead < 8 = omega (arith, within, beyond, some) in
    let there : end ≡ at + ahead = omega (arith, beyond, some) in
    let bit : ℕ = 8 * ahead + bucket_at b.buckets here.0 in
    let unset : bit_at (2 ^ 64 - 1) bit ≡ 0 = ap (λ w. bit_at w bit) (sym full) ∙ rules here.0 ahead near (subst (Occurs b.literals text here.0) there here.1) in
    absurd (omega (arith, unset, bit_at_ones 64 bit (omega (arith, near, few_buckets b.buckets here.0))))

-- where nothing ends at the positions of the first words, nothing ends up to the next word
pub none_of_words : (l : Literals) (text : List ℕ) (from at count : ℕ) → 8 ≤ at → NoEndUpTo l text from (at - 1) → ((i : ℕ) → i < count → NoEndUpTo l text (at + 8 * i - 1) (at + 8 * i + 7)) → NoEndUpTo l text from (at + 8 * count - 1)
none_of_words l text from at count some before none end beyond within here = elim (cases_lt end at) [
  | inl upto ↦ before end beyond (omega (arith, upto)) here
  | inr past ↦
      let i : ℕ = (end - at) / 8 in
      none i (omega (arith, within, past)) end (omega (arith, past, some)) (omega (arith, past)) here
]

-- where four words have all their bits, nothing ends at their positions
pub none_of_group : (b : Bucketing) (text : List ℕ) (at : ℕ) (words : List ℕ) → 8 ≤ at → RulesOutWords b text at words → ((i : ℕ) → i < 4 → slice_index words i ≡ 2 ^ 64 - 1) → NoEndUpTo b.literals text (at - 1) (at + 31)
none_of_group b text at words some rules full end beyond within =
    none_of_words b.literals text (at - 1) at 4 some (λ other past upto. absurd (omega (arith, past, upto)))
    (λ i below. none_of_word b text (at + 8 * i) (slice_index words i) (omega (arith, some)) (rules i below) (full i below)) end beyond (omega (arith, within))

-- the bits that a word lacks stand for the ends that it does not rule out
pub all_unruled : (b : Bucketing) (text : List ℕ) (at word : ℕ) → word < 2 ^ 64 → RulesOut b text at word → (place ahead : ℕ) → ahead < 8 → Occurs b.literals text place (at + ahead) → bit_at (bit_not w64 word) (8 * ahead + bucket_at b.buckets place) ≡ 1
all_unruled b text at word fits rules place ahead near occurs =
    let bit : ℕ = 8 * ahead + bucket_at b.buckets place in
    omega (arith, bit_at_not w64 word bit fits (omega (arith, near, few_buckets b.buckets place)), rules place ahead near occurs)

-- where no literal of the lowest bit's bucket ends at its position, the other bits are a state of the search as well
pub others_left : (b : Bucketing) (text : List ℕ) (from at unruled carried low rest : ℕ) → at + 7 ≤ length text → AreProbes b text from (record { at = at; unruled = unruled; carried = carried }) → SplitsLowest unruled low rest → NoneOf b text (low % 8) (at + low / 8)
    → AreProbes b text from (record { at = at; unruled = rest; carried = carried })
others_left b text from at unruled carried low rest inside are split none = record {
  some = are.some;
  near = are.near;
  inside = λ _. inside;
  within = are.within;
  later = λ bit set. are.later bit ((split.others bit).0 set).1;
  none = are.none;
  unruled = λ place ahead near past occurs.
      let bit : ℕ = 8 * ahead + bucket_at b.buckets place in
      let set : bit_at unruled bit ≡ 1 = are.unruled place ahead near past occurs in
      elim (cases_lt low bit) [
        | inl above ↦ (split.others bit).1 (above, set)
        | inr upto ↦ elim (cases_lt bit low) [
          | inl below ↦ absurd (omega (arith, split.lowest bit below, set))
          | inr from ↦
              let same : bucket_at b.buckets place ≡ low % 8 = omega (arith, upto, from, few_buckets b.buckets place) in
              let there : at + ahead ≡ at + low / 8 = omega (arith, upto, from, few_buckets b.buckets place) in
              absurd (none place same (subst (Occurs b.literals text place) there occurs))
        ]
      ];
  carried = are.carried;
}

-- and where no literal at all ends there, the bits of later positions
pub later_left : (b : Bucketing) (text : List ℕ) (from at unruled carried low rest after : ℕ) → at + 7 ≤ length text → AreProbes b text from (record { at = at; unruled = unruled; carried = carried }) → SplitsLowest unruled low rest
    → ((k : ℕ) → (bit_at after k ≡ 1) ↔ ((8 * (low / 8) + 8 ≤ k) × (bit_at rest k ≡ 1))) → NoneEnds b.literals text 0 (at + low / 8) → AreProbes b text from (record { at = at; unruled = after; carried = carried })
later_left b text from at unruled carried low rest after inside are split further none = record {
  some = are.some;
  near = are.near;
  inside = λ _. inside;
  within = are.within;
  later = λ bit set. are.later bit ((split.others bit).0 ((further bit).0 set).1).1;
  none = are.none;
  unruled = λ place ahead near past occurs.
      let bit : ℕ = 8 * ahead + bucket_at b.buckets place in
      let set : bit_at unruled bit ≡ 1 = are.unruled place ahead near past occurs in
      elim (cases_lt (8 * (low / 8) + 7) bit) [
        | inl above ↦ (further bit).1 (omega (arith, above), (split.others bit).1 (omega (arith, above), set))
        | inr upto ↦ elim (cases_lt bit low) [
          | inl below ↦ absurd (omega (arith, split.lowest bit below, set))
          | inr from ↦
              let there : at + ahead ≡ at + low / 8 = omega (arith, upto, from, few_buckets b.buckets place) in
              absurd (none place (omega arith) (subst (Occurs b.literals text place) there occurs))
        ]
      ];
  carried = are.carried;
}

-- a number with no bit that another lacks is no greater
pub no_more_bits : (n other : ℕ) → ((k : ℕ) → bit_at n k ≡ 1 → bit_at other k ≡ 1) → n ≤ other
no_more_bits n other within =
    let both : n ≡ bit_and other n = same_from_bits n (bit_and other n) (λ k. elim (cases_eq (bit_at n k) 1) [
      | inl set ↦ omega (arith, set, within k set, bit_at_and other n k)
      | inr unset ↦ omega (arith, unset, bit_at-lt n k, bit_at_and other n k)
    ]) in
    omega (arith, both, and_le_l other n)

-- an end of a literal among the eight positions has a bit
left_at : (b : Bucketing) (text : List ℕ) (from end : ℕ) (probes : Probes) → AreProbes b text from probes → from < end → probes.at ≤ end → end ≤ probes.at + 7
    → (here : HasEnd b.literals text end) → bit_at probes.unruled (8 * (end - probes.at) + bucket_at b.buckets here.0) ≡ 1
left_at b text from end probes are beyond after within here =
    let ahead : ℕ = end - probes.at in
    let there : end ≡ probes.at + ahead = omega (arith, after) in
    are.unruled here.0 ahead (omega (arith, within, after)) (omega (arith, beyond, there)) (subst (Occurs b.literals text here.0) there here.1)

-- where there is no bit, nothing ends after a position and among the eight
pub none_left : (b : Bucketing) (text : List ℕ) (from : ℕ) (probes : Probes) → AreProbes b text from probes → probes.unruled ≡ 0 → NoEndUpTo b.literals text from (probes.at + 7)
none_left b text from probes are none end beyond within here = elim (cases_lt end probes.at) [
  | inl before ↦ are.none end beyond (omega (arith, before)) here
  | inr after ↦
      let bit : ℕ = 8 * (end - probes.at) + bucket_at b.buckets here.0 in
      absurd (omega (arith, left_at b text from end probes are beyond after within here, ap (λ w. bit_at w bit) none, bit_at-zero bit))
]

-- the first literal that ends at the position of the lowest bit is the first found, and the later bits are the state of
-- a search after it
pub lowest_verified : (b : Bucketing) (text : List ℕ) (from at unruled carried low rest after first : ℕ) → at + 7 ≤ length text → AreProbes b text from (record { at = at; unruled = unruled; carried = carried }) → SplitsLowest unruled low rest
    → ((k : ℕ) → (bit_at after k ≡ 1) ↔ ((8 * (low / 8) + 8 ≤ k) × (bit_at rest k ≡ 1))) → IsFirstEnding b.literals text 0 (at + low / 8) first
    → IsVerified b text from (record { end = at + low / 8; first = first; probes = record { at = at; unruled = after; carried = carried } })
lowest_verified b text from at unruled carried low rest after first inside are split further ending =
    let beyond : from < at + low / 8 = are.later low split.set in record {
      first = record {
        after = beyond;
        none = λ other past sooner here. elim (cases_lt other at) [
          | inl before ↦ are.none other past (omega (arith, before)) here
          | inr there ↦
              let bit : ℕ = 8 * (other - at) + bucket_at b.buckets here.0 in
              let set = left_at b text from other (record { at = at; unruled = unruled; carried = carried }) are past there (omega (arith, sooner, split.small)) here in
              absurd (omega (arith, split.lowest bit (omega (arith, sooner, there, few_buckets b.buckets here.0)), set))
        ];
        first = ending;
      };
      probes = record {
        some = are.some;
        near = omega (arith, split.small);
        inside = λ _. inside;
        within = omega (arith, inside);
        later = λ bit set. omega (arith, ((further bit).0 set).0);
        none = λ end past within. absurd (omega (arith, past, within, are.some));
        unruled = λ place ahead near past occurs.
            let bit : ℕ = 8 * ahead + bucket_at b.buckets place in
            let high : 8 * (low / 8) + 8 ≤ bit = omega (arith, past) in
            let set = are.unruled place ahead near (omega (arith, past, beyond)) occurs in
            (further bit).1 (high, (split.others bit).1 (omega (arith, high), set));
        carried = are.carried;
      };
    }

-- the ends that are not ruled out at eight positions are the state of a search after any position before them, if
-- nothing ends up to the first of the eight
pub probes_here : (b : Bucketing) (text : List ℕ) (start at ruled carried : ℕ) → start < at → 8 ≤ at → at + 7 ≤ length text → ruled < 2 ^ 64 → NoEndUpTo b.literals text start (at - 1) → RulesOut b text at ruled → RulesOut b text (at + 8) carried
    → AreProbes b text start (record { at = at; unruled = bit_not w64 ruled; carried = carried })
probes_here b text start at ruled carried near some inside fits none rules after = record {
  some = some;
  near = omega (arith, near);
  inside = λ _. inside;
  within = omega (arith, inside);
  later = λ bit _. omega (arith, near);
  none = none;
  unruled = λ place further close _ occurs. all_unruled b text at ruled fits rules place further close occurs;
  carried = after;
}

-- so are the ends at the eight positions of one of four words, with the next word for the ends ruled out after it
pub probes_of_word : (b : Bucketing) (text : List ℕ) (start at after : ℕ) (words : List ℕ) (word : ℕ) → start < at + 8 * word → 8 ≤ at → at + 31 ≤ length text → length words ≡ 4 → Each1 (Fits w64) words → word < 4
    → RulesOutWords b text at words → RulesOut b text (at + 32) after → NoEndUpTo b.literals text start (at + 8 * word - 1)
    → AreProbes b text start (record { at = at + 8 * word; unruled = bit_not w64 (slice_index words word); carried = slice_index (with_one_after words after) word })
probes_of_word b text start at after words word before some inside long fits four rules last none =
    let here : ℕ = at + 8 * word in
    let later : ℕ = slice_index (with_one_after words after) word in
    let next : at + 8 * (word + 1) ≡ here + 8 = omega arith in
    probes_here b text start here (slice_index words word) later (omega (arith, before)) (omega (arith, some)) (omega (arith, inside, four)) (word_fits words long fits word four) none (rules word four)
    (subst (λ p. RulesOut b text p later) next (later_words b text at after words rules last word four))

-- the first end found after a position up to which nothing ends is the first after any earlier one
pub found_further : (l : Literals) (text : List ℕ) (from at end place : ℕ) → from ≤ at → NoEndUpTo l text from at → IsFirstFound l text at end place → IsFirstFound l text from end place
found_further l text from at end place ahead before found = record {
  after = omega (arith, ahead, found.after);
  none = λ other beyond sooner here. elim (cases_lt at other) [ inl later ↦ found.none other later sooner here | inr less ↦ before other beyond less here ];
  first = found.first;
}

-- so is all that a search finds there
pub verified_further : (b : Bucketing) (text : List ℕ) (from at last : ℕ) (found : Option Verified) → from ≤ at → NoEndUpTo b.literals text from at → FindsVerified b text at last found → FindsVerified b text from last found
verified_further b text from at last None ahead before none = none_joined b.literals text from at before last none
verified_further b text from at last (Some hit) ahead before found = record { first = found_further b.literals text from at hit.end hit.first ahead before found.first; probes = found.probes }

-- a position at which no literal ends
pub none_one : (l : Literals) (text : List ℕ) (at : ℕ) → NoneEnds l text 0 (at + 1) → NoEndUpTo l text at (at + 1)
none_one l text at none end beyond within here =
    let same : end ≡ at + 1 = omega (arith, beyond, within) in
    none here.0 (omega arith) (subst (Occurs l text here.0) same here.1)

-- the last of two bytes is the byte that is known alone
last_alone : (fold : Fold) (text : List ℕ) (at : ℕ) → AreBytes text → 2 ≤ at → at ≤ length text → number_at fold text at / 256 ≡ last_number_at fold text at
unfolding suffix_key
last_alone fold text at bytes some inside =
    let two : List ℕ = slice_range text (at - 2) at in
    let one : List ℕ = slice_range text (at - 1) at in
    let twos : AreBytes (replicate 6 0 ++ two) = zeros_bytes 6 two (range_bytes text (at - 2) at inside bytes) in
    let ones : AreBytes (replicate 7 0 ++ one) = zeros_bytes 7 one (range_bytes text (at - 1) at inside bytes) in
    let last : spelled (replicate 6 0 ++ two) / 2 ^ 56 ≡ spelled (replicate 7 0 ++ one) / 2 ^ 56 =
    spelled-drop 7 (replicate 6 0 ++ two) twos ∙ ap spelled (drop-range text (at - 2) (at - 1) 1 at (omega (arith, some))) ∙ sym (spelled-drop 7 (replicate 7 0 ++ one) ones) in
    shr-shr (bit_or (spelled (replicate 6 0 ++ two)) (case_bits fold)) 48 8
    ∙ or_shr (spelled (replicate 6 0 ++ two)) (case_bits fold) 56
    ∙ ap (λ n. bit_or n (case_bits fold / 2 ^ 56)) last
    ∙ sym (or_shr (spelled (replicate 7 0 ++ one)) (case_bits fold) 56)

-- the bits of case in two bytes make a small number
pub pair_case_small : (fold : Fold) → pair_case_bits fold < 2 ^ 16
pair_case_small No = omega arith
pair_case_small Ascii = omega arith

-- the number that two bytes spell
spelled_two : (bytes : List ℕ) → length bytes ≡ 2 → spelled bytes ≡ get_or bytes 0 0 + get_or bytes 1 0 * 256
spelled_two [] two = absurd (omega (arith, two))
spelled_two (a ∷ []) two = absurd (omega (arith, two))
spelled_two (a ∷ b ∷ []) two = omega arith
spelled_two (a ∷ b ∷ c ∷ rest) two = absurd (omega (arith, two))

-- the number of the two bytes before a position, without the bits of case
pub pair_number : (fold : Fold) (text : List ℕ) (at : ℕ) → AreBytes text → 2 ≤ at → at ≤ length text → bit_or (get_or text (at - 2) 0 + get_or text (at - 1) 0 * 256) (pair_case_bits fold) ≡ number_at fold text at
unfolding suffix_key
pair_number fold text at bytes some inside =
    let two : List ℕ = slice_range text (at - 2) at in
    let twos : AreBytes (replicate 6 0 ++ two) = zeros_bytes 6 two (range_bytes text (at - 2) at inside bytes) in
    let gap : at - (at - 2) ≡ 2 = omega (arith, some) in
    let long : length two ≡ 2 = length-between text (at - 2) at inside ∙ gap in
    let first : get_or two 0 0 ≡ get_or text (at - 2) 0 = ap (λ i. get_or two i 0) (omega arith) ∙ get_or-range text (at - 2) at (at - 2) 0 (omega arith) (omega (arith, some)) in
    let place : at - 1 - (at - 2) ≡ 1 = omega (arith, some) in
    let second : get_or two 1 0 ≡ get_or text (at - 1) 0 = ap (λ i. get_or two i 0) (sym place) ∙ get_or-range text (at - 2) at (at - 1) 0 (omega arith) (omega (arith, some)) in
    let spell : get_or text (at - 2) 0 + get_or text (at - 1) 0 * 256 ≡ spelled two = omega (arith, spelled_two two long, first, second) in
    ap (λ n. bit_or n (pair_case_bits fold)) (spell ∙ sym (spelled-drop 6 (replicate 6 0 ++ two) twos)) ∙ sym (or_shr (spelled (replicate 6 0 ++ two)) (case_bits fold) 48)

-- a literal that ends after two bytes of a text and reaches back to them fits them
fits_pair : (l : Literals) (text : List ℕ) (at number place ahead : ℕ) → AreBytes text → 2 ≤ at → at ≤ length text → number ≡ number_at l.folding text at → ahead < length (literal_at l place) → Occurs l text place (at + ahead)
    → FitsPair l.folding number (literal_at l place) ahead
fits_pair l text at number place ahead bytes some inside number_is reaches occurs =
    let fold = l.folding in
    let literal : List ℕ = literal_at l place in
    let back : at + ahead - ahead ≡ at = omega arith in
    elim (cases_lt (1 + ahead) (length literal)) [
      | inl more ↦
          let key = ap (λ n. suffix_key fold text n 2) (sym back) ∙ key-occurs_inside l text place (at + ahead) 2 ahead bytes (omega arith) (omega (arith, more)) occurs in
          inr (omega (arith, more), number_is ∙ ap (λ k. k / 2 ^ 48) key)
      | inr last ↦
          let len : length literal ≡ 1 + ahead = omega (arith, reaches, last) in
          let first : length literal - ahead ≡ 1 = omega (arith, len) in
          let key = ap (λ n. suffix_key fold text n 1) (sym back) ∙ key-occurs_inside l text place (at + ahead) 1 ahead bytes (omega arith) (omega (arith, len)) occurs ∙ ap (λ n. suffix_key fold literal n 1) first in
          inl (len, ap (λ n. n / 256) number_is ∙ last_alone fold text at bytes some inside ∙ ap (λ k. k / 2 ^ 56) key)
    ]

-- the entry of two bytes as they stand rules out ends from the position after them on
pub ruled_by_pair : (b : Bucketing) (text entries : List ℕ) (at entry : ℕ) → AreBytes text → 2 ≤ at → at ≤ length text → AreEntriesOf b.literals b.buckets entries → entry ≡ slice_index entries (get_or text (at - 2) 0 + get_or text (at - 1) 0 * 256) → RulesOut b text at entry
ruled_by_pair b text entries at entry bytes some inside are is place ahead near occurs =
    let l = b.literals in
    let literal : List ℕ = literal_at l place in
    let bucket : ℕ = bucket_at b.buckets place in
    let bit : ℕ = 8 * ahead + bucket in
    let pair : ℕ = get_or text (at - 2) 0 + get_or text (at - 1) 0 * 256 in
    let number : ℕ = bit_or pair (pair_case_bits l.folding) in
    let there = slice_get_within l.texts place occurs.literal occurs.stands in
    let its : bit % 8 ≡ bucket = omega (arith, few_buckets b.buckets place) in
    let same : ahead ≡ bit / 8 = omega (arith, few_buckets b.buckets place) in
    ap (λ e. bit_at e bit) is ∙ (are.each pair bit (omega (arith, bytes.small (at - 2), bytes.small (at - 1))) (omega (arith, near, few_buckets b.buckets place))).1 (elim (cases_lt ahead (length literal)) [
      | inl reaches ↦ inr (record { place = place; within = there; is = (its, subst (FitsPair l.folding number literal) same (fits_pair l text at number place ahead bytes some inside (pair_number l.folding text at bytes some inside) reaches occurs)) })
      | inr short ↦ inl (record { place = place; within = there; is = (its, omega (arith, same, short)) })
    ])
