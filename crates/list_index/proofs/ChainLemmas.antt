-- The walk along a chain, and the first literal by the widths, one after another.
use Rattle.std.proofs.Common.{◌≡◌, ℕ, ◌+◌, ◌<◌, ◌≤◌, All, List, [], length, get_or, IfSome, MatchOption, Option, Some, None, inl, inr, sym, ap, ◌∙◌, subst, arith}
use Rattle.std.specs.List.Sorted.{IsNonDecreasing}
use Rattle.std.proofs.lemmas.Bool.{cases_eq, cases_lt}
use Rattle.std.proofs.lemmas.List.{length-map}
use Rattle.std.proofs.lemmas.Option.{get_or_from_slice_get, slice_get_within}
use Rattle.list_index.specs.Chains.{AreKeyed, EndsKeyed, IsFirstKeyed, key_width_at}
use Rattle.list_index.specs.KeyChains.{AreChained, IsNextWith, Reaches, hash_at}
use Rattle.lit_base.specs.Literals.{Literals, lengths, literal_at}
use Rattle.lit_base.specs.Occurrences.{Occurs, NoneEnds, IsFirstEnding}
use Rattle.list_index.specs.Suffixes.{suffix_key, hash_of}
use Rattle.list_index.specs.declared.suffixes.key_chains.KeyChains.{KeyChains}
use Rattle.lit_base.proofs.LengthLemmas.{length_at}
use Rattle.list_index.proofs.SuffixLemmas.{AreBytes, key-occurs}

-- where a literal with a key of this width ends, the text has the key kept of it
pub kept_key : (l : Literals) (short : KeyChains) → AreKeyed l short → (text : List ℕ) → AreBytes text → (end width : ℕ) → width ≤ 8 → (place : ℕ) → EndsKeyed l text end width place
    → get_or short.keys.items place 0 ≡ suffix_key l.folding text end width
kept_key l short are text bytes end width narrow place ends =
    let there = slice_get_within l.texts place ends.1.literal ends.1.stands in
    let wide : width ≤ length (literal_at l place) = omega (arith, ends.0) in
    are.keyed place there
    ∙ ap (suffix_key l.folding (literal_at l place) (length (literal_at l place))) ends.0
    ∙ sym (key-occurs l text place end width bytes narrow wide ends.1)

-- a walk begins where a chain does, or after a literal that has the key
pub reaches_first : (chains : KeyChains) (key : ℕ) (Sought : ℕ → Type 0) → ((place : ℕ) → Sought place → get_or chains.keys.items place 0 ≡ key) → (from next : ℕ) → next ≤ length chains.keys.items
    → ((i : ℕ) → from ≤ i → i < next → get_or chains.keys.items i 0 ≡ key → ⊥) → (next < length chains.keys.items → hash_at chains.bits chains.keys.items next ≡ hash_of chains.bits key) → Reaches chains key Sought from next
reaches_first chains key Sought keyed from next within skipped has = record { within = within; passed = λ place low high sought. skipped place low high (keyed place sought); has = has }

-- one step along the chain of a key, where all that are sought have the key
pub reaches_link : (chains : KeyChains) → AreChained chains → (key : ℕ) (Sought : ℕ → Type 0) → ((place : ℕ) → Sought place → get_or chains.keys.items place 0 ≡ key) → (from next : ℕ) → next < length chains.keys.items → (from ≤ next → ¬ Sought next)
    → Reaches chains key Sought from next → Reaches chains key Sought from (get_or chains.links.items next 0)
reaches_link chains are key Sought keyed from next inside apart old =
    let step : IsNextWith (hash_at chains.bits chains.keys.items) (length chains.keys.items) (hash_of chains.bits key) (next + 1) (get_or chains.links.items next 0) =
    subst (λ h. IsNextWith (hash_at chains.bits chains.keys.items) (length chains.keys.items) h (next + 1) (get_or chains.links.items next 0)) (old.has inside) (are.chained.link next (omega arith) inside) in
    record {
      within = step.within;
      passed = λ place low high sought. elim (cases_lt place next) [
        | inl before ↦ old.passed place low before sought
        | inr after ↦ elim (cases_eq place next) [
          | inl here ↦ apart (omega (arith, low, here)) (subst Sought here sought)
          | inr later ↦ step.skipped place (omega (arith, after, later)) high (ap (hash_of chains.bits) (keyed place sought))
        ]
      ];
      has = step.has;
    }

-- what is no more than each length is no more than the length of the literal at a place
pub at_least : (l : Literals) (least : ℕ) → All (λ len. least ≤ len) (lengths l) → (place : ℕ) → place < length l.texts → least ≤ length (literal_at l place)
at_least l least all place inside = omega (arith, all place 0 (omega (arith, inside, length-map l.texts (length {A = ℕ}))), length_at l.texts place 0 inside)

-- a later literal is no shorter
pub no_shorter : (l : Literals) → IsNonDecreasing (lengths l) → (place other : ℕ) → place ≤ other → other < length l.texts → length (literal_at l place) ≤ length (literal_at l other)
no_shorter l rising place other low inside =
    let below = rising place other 0 low (omega (arith, inside, length-map l.texts (length {A = ℕ}))) in
    omega (arith, below, length_at l.texts place 0 (omega arith), length_at l.texts other 0 inside)

-- a literal that ends at a position has a key no wider than the text before it
pub fits_before : (l : Literals) (text : List ℕ) (place end : ℕ) → Occurs l text place end → key_width_at l place ≤ end
fits_before l text place end occurs = omega (arith, occurs.begins, ap length (get_or_from_slice_get l.texts place occurs.literal [] occurs.stands))

-- the first that is found at this width, where narrower keys hold none, is the first of all
pub first_by_width : (l : Literals) (text : List ℕ) (from end width first : ℕ) → IsNonDecreasing (lengths l)
    → ((place : ℕ) → from ≤ place → key_width_at l place < width → ¬ Occurs l text place end) → IsFirstKeyed l text from end width first → IsFirstEnding l text from end first
first_by_width l text from end width first rising before found = record {
  counted = found.counted;
  occurs = found.occurs;
  first = λ other low high occurs.
      let rises = no_shorter l rising other first (omega (arith, high)) (slice_get_within l.texts first found.occurs.literal found.occurs.stands) in
      elim (cases_lt (key_width_at l other) width) [
        | inl narrower ↦ before other low narrower occurs
        | inr wide ↦ found.first other low high (omega (arith, wide, rises, found.keyed)) occurs
      ];
}

-- a literal that is found is in the list
pub found_within : (l : Literals) (text : List ℕ) (from end : ℕ) (r : Option ℕ) → MatchOption r (NoneEnds l text from end) (λ place. IsFirstEnding l text from end place)
    → IfSome r (λ place. place < length l.texts)
found_within l text from end None found = tt
found_within l text from end (Some p) found = slice_get_within l.texts p found.occurs.literal found.occurs.stands
