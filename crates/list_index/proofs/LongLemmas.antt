-- The hash of more last bytes, and the walk from width to width along the chain of a key.
use Rattle.std.proofs.Common.{◌≡◌, ℕ, zero, suc, ◌+◌, ◌-◌, ◌*◌, ◌%◌, ◌<◌, ◌≤◌, List, length, get_or, set, inl, inr, refl, sym, ap, ◌∙◌, subst, arith}
use Rattle.std.specs.Int.RustNames.{bit_or}
use Rattle.std.specs.List.{slice_range}
use Rattle.std.specs.List.Sorted.{IsNonDecreasing}
use Rattle.std.proofs.lemmas.Bool.{cases_eq, cases_lt}
use Rattle.std.proofs.lemmas.List.{get_or-map, get_or-set_other, get_or-set_same}
use Rattle.std.proofs.lemmas.List.Edits.{length-between, get_or-between}
use Rattle.std.proofs.lemmas.Option.{slice_get_within}
use Rattle.lit_base.specs.declared.fold.Fold.{Fold}
use Rattle.lit_base.specs.Folding.{folded}
use Rattle.lit_base.specs.Literals.{Literals, lengths, literal_at}
use Rattle.lit_base.specs.Occurrences.{Occurs}
use Rattle.list_index.specs.Chains.{EndsKeyed, IsFirstKeyed, NoneKeyedEnds}
use Rattle.list_index.specs.KeyChains.{IsNextWith, Reaches, hash_at}
use Rattle.list_index.specs.LongChains.{AreHashed, AreSkips, EndsHashed, IsFirstHashed, IsSkip, hashed_width_at, suffix_hash}
use Rattle.list_index.specs.Suffixes.{case_bits, hash_of}
use Rattle.list_index.specs.declared.suffixes.key_chains.KeyChains.{KeyChains}
use Rattle.list_index.proofs.ChainLemmas.{no_shorter}
use Rattle.list_index.proofs.SuffixLemmas.{AreBytes, folded_with_case_bits, literal_is}

-- the hash of no byte
pub hash_none : (fold : Fold) (text : List ℕ) (end : ℕ) → suffix_hash fold text end 0 ≡ 1
unfolding suffix_hash
hash_none fold text end = refl

-- the hash of one byte more
pub hash_longer : (fold : Fold) (text : List ℕ) (end n : ℕ)
    → suffix_hash fold text end (suc n) ≡ (suffix_hash fold text end n * 11400714819323198485 % 18446744073709551616 + bit_or (get_or text (end - 1 - n) 0) (case_bits fold)) % 18446744073709551616
unfolding suffix_hash
hash_longer fold text end n = refl

-- so far before its end, a literal that ends in the text has the text's byte without its case
literal_byte : (l : Literals) (text : List ℕ) (place end : ℕ) (o : Occurs l text place end) (n : ℕ) → n < length o.literal → get_or o.literal (length o.literal - 1 - n) 0 ≡ folded l.folding (get_or text (end - 1 - n) 0)
literal_byte l text place end o n inside =
    let from : ℕ = end - length o.literal in
    let at : ℕ = length o.literal - 1 - n in
    let len = length-between text from end o.ends in
    let there : from + at ≡ end - 1 - n = omega (arith, inside, o.begins) in
    ap (λ s. get_or s at 0) (sym o.bytes)
    ∙ get_or-map (folded l.folding) (slice_range text from end) at 0 0 (omega (arith, len, inside, o.begins))
    ∙ ap (folded l.folding) (get_or-between text from end at 0 (omega (arith, inside, o.begins)) ∙ ap (λ i. get_or text i 0) there)

hash_in_literal : (l : Literals) (text : List ℕ) (place end : ℕ) → AreBytes text → (o : Occurs l text place end) → (n : ℕ) → n ≤ length o.literal → suffix_hash l.folding text end n ≡ suffix_hash l.folding o.literal (length o.literal) n
unfolding suffix_hash
hash_in_literal l text place end bytes o zero fits = refl
hash_in_literal l text place end bytes o (suc n) fits =
    let rest = hash_in_literal l text place end bytes o n (omega (arith, fits)) in
    let here : bit_or (get_or text (end - 1 - n) 0) (case_bits l.folding) ≡ bit_or (get_or o.literal (length o.literal - 1 - n) 0) (case_bits l.folding) =
    sym (folded_with_case_bits l.folding (get_or text (end - 1 - n) 0) (bytes.small (end - 1 - n))) ∙ ap (λ b. bit_or b (case_bits l.folding)) (sym (literal_byte l text place end o n (omega (arith, fits)))) in
    λ i. (rest i * 11400714819323198485 % 18446744073709551616 + here i) % 18446744073709551616

-- where a literal ends, the text has the hash kept of it
pub kept_hash : (l : Literals) (hashes : KeyChains) → AreHashed l hashes → (text : List ℕ) → AreBytes text → (end width place : ℕ) → EndsHashed l text end width place → get_or hashes.keys.items place 0 ≡ suffix_hash l.folding text end width
kept_hash l hashes are text bytes end width place ends =
    let o = ends.1 in
    let is = literal_is l text place end o in
    let fits : width ≤ length o.literal = omega (arith, ends.0, ap (length {A = ℕ}) is) in
    are.hashed place (slice_get_within l.texts place o.literal o.stands)
    ∙ ap (suffix_hash l.folding (literal_at l place) (length (literal_at l place))) ends.0
    ∙ ap (λ t. suffix_hash l.folding t (length t) width) (sym is)
    ∙ sym (hash_in_literal l text place end bytes o width fits)

-- a literal whose next one on the chain is as wide has that one's skip
pub skip_alike : (hash_at width_at : ℕ → ℕ) (count i next skip : ℕ) → IsNextWith hash_at count (hash_at i) (i + 1) next → next < count → width_at next ≡ width_at i → IsSkip hash_at width_at count next skip → IsSkip hash_at width_at count i skip
skip_alike hash_at width_at count i next skip link inside alike far =
    let same : hash_at next ≡ hash_at i = link.has inside in
    record {
      above = omega (arith, link.above, far.above);
      within = far.within;
      skipped = λ j low high has. elim (cases_lt j next) [
        | inl before ↦ absurd (link.skipped j (omega (arith, low)) before has)
        | inr after ↦ elim (cases_eq j next) [
          | inl here ↦ ap width_at here ∙ alike
          | inr later ↦ far.skipped j (omega (arith, after, later)) high (has ∙ sym same) ∙ alike
        ]
      ];
      has = λ low. far.has low ∙ same;
    }

-- and otherwise its link
pub skip_link : (hash_at width_at : ℕ → ℕ) (count i next : ℕ) → IsNextWith hash_at count (hash_at i) (i + 1) next → IsSkip hash_at width_at count i next
skip_link hash_at width_at count i next link = record {
  above = omega (arith, link.above);
  within = link.within;
  skipped = λ j low high has. absurd (link.skipped j (omega (arith, low)) high has);
  has = link.has;
}

-- with one more skip before them, all from there on have theirs
pub one_more_skip : (l : Literals) (short : KeyChains) (low skip : ℕ) (skips : List ℕ) → low < length skips → IsSkip (hash_at short.bits short.keys.items) (hashed_width_at l) (length l.texts) low skip → AreSkips l short (low + 1) skips
    → AreSkips l short low (set skips low skip)
one_more_skip l short low skip skips room is old = λ i above inside.
    let IsThere : ℕ → ℕ → Type 0 = IsSkip (hash_at short.bits short.keys.items) (hashed_width_at l) (length l.texts) in
    elim (cases_eq i low) [
      | inl here ↦ subst (λ k. IsThere k (get_or (set skips low skip) k 0)) (sym here) (subst (IsThere low) (sym (get_or-set_same skips low skip 0 room)) is)
      | inr other ↦ subst (IsThere i) (sym (get_or-set_other skips low i skip 0 other)) (old i (omega (arith, above, other)) inside)
    ]

-- one skip along the chain of a key, where none as wide as the last is sought
pub reaches_skip : (short : KeyChains) (key : ℕ) (Sought : ℕ → Type 0) → ((place : ℕ) → Sought place → get_or short.keys.items place 0 ≡ key) → (width_at : ℕ → ℕ) (count from next skip : ℕ) → length short.keys.items ≡ count → next < count
    → IsSkip (hash_at short.bits short.keys.items) width_at count next skip → ((place : ℕ) → from ≤ place → width_at place ≡ width_at next → ¬ Sought place) → Reaches short key Sought from next → Reaches short key Sought from skip
reaches_skip short key Sought keyed width_at count from next skip all inside far apart old =
    let has : hash_at short.bits short.keys.items next ≡ hash_of short.bits key = old.has (omega (arith, all, inside)) in
    record {
      within = omega (arith, far.within, all);
      passed = λ place low high sought. elim (cases_lt place next) [
        | inl before ↦ old.passed place low before sought
        | inr after ↦ elim (cases_eq place next) [
          | inl here ↦ apart place low (ap width_at here) sought
          | inr later ↦ apart place low (far.skipped place (omega (arith, after, later)) high (ap (hash_of short.bits) (keyed place sought) ∙ sym has)) sought
        ]
      ];
      has = λ low. far.has (omega (arith, low, all)) ∙ has;
    }

module _ (l : Literals) (rising : IsNonDecreasing (lengths l)) (text : List ℕ) (from end : ℕ) (short : KeyChains) (key next : ℕ) (inside : next < length l.texts) (reached : Reaches short key (EndsKeyed l text end 8) from next) where
  -- a literal that is no narrower than the one where the walk stands, and ends there, is the first if it is the first so
  -- wide
  pub first_of_wide : (place : ℕ) → 8 ≤ hashed_width_at l next → IsFirstHashed l text from end (hashed_width_at l next) place → IsFirstKeyed l text from end 8 place
  first_of_wide place wide found =
      let there = slice_get_within l.texts place found.ends.1.literal found.ends.1.stands in
      record {
        counted = found.counted;
        keyed = omega (arith, wide, found.ends.0);
        occurs = found.ends.1;
        first = λ other low high keyed occurs.
            let rises = no_shorter l rising other place (omega (arith, high)) there in
            elim (cases_lt other next) [
              | inl passed ↦ reached.passed other low passed (keyed, occurs)
              | inr after ↦
                  let above = no_shorter l rising next other after (omega (arith, high, there)) in
                  found.first other low high (omega (arith, above, rises, found.ends.0), occurs)
            ];
      }

  -- where the text before is too short for it, no later one ends
  pub none_fits : end < hashed_width_at l next → NoneKeyedEnds l text from end 8
  none_fits high place low keyed occurs = elim (cases_lt place next) [
    | inl passed ↦ reached.passed place low passed (keyed, occurs)
    | inr after ↦
        let rises = no_shorter l rising next place after (slice_get_within l.texts place occurs.literal occurs.stands) in
        absurd (omega (arith, high, rises, occurs.begins, ap (length {A = ℕ}) (literal_is l text place end occurs)))
  ]
