-- Factors: a text has the hash bits of each literal that ends in it, at the literal's offset.
use Rattle.std.proofs.Common.{◌≡◌, ℕ, ◌+◌, ◌-◌, ◌≤◌, List, length, sym, ap, ◌∙◌, subst, arith}
use Rattle.std.specs.Int.{bit_at}
use Rattle.std.specs.List.{slice_index}
use Rattle.std.proofs.lemmas.Option.{slice_get_within}
use Rattle.lit_base.specs.declared.fold.Fold.{Fold}
use Rattle.list_index.specs.HashBits.{HasBit}
use Rattle.list_index.specs.Suffixes.{hash_of, masked_key, suffix_key}
use Rattle.list_index.proofs.SuffixLemmas.{AreBytes, key-occurs_inside, literal_is}
use Rattle.factor_search.specs.declared.widths.TheConstants.{HASH_BITS, WIDTH}
use Rattle.factor_search.specs.Widths.{IsLeastWidth, width_at}
use Rattle.factor_search.specs.Factors.{AreHashBits, AreFactorBits, Factored, factor_key, offset_at}

-- the hash bits of a position are complete if they include the bits for the bytes before it by all widths from the
-- least on
pub hash_bits_are : (w : Factored) (fold : Fold) (least : ℕ) (hash_bits text : List ℕ) (at result : ℕ) → fold ≡ w.literals.folding → IsLeastWidth w.literals least → AreFactorBits w.literals w.offsets hash_bits (length w.literals.texts) → AreBytes text
    → ((width back : ℕ) → least ≤ width → width ≤ WIDTH → width ≤ at → HasBit hash_bits (hash_of HASH_BITS (suffix_key fold text at width)) back → bit_at result back ≡ 1)
    → AreHashBits w text at result
hash_bits_are w fold least hash_bits text at result same fits are bytes known place occurs =
    let l = w.literals in
    let there = slice_get_within l.texts place occurs.literal occurs.stands in
    let offset : ℕ = offset_at w place in
    let width : ℕ = width_at l place in
    let narrow : width ≤ WIDTH = omega arith in
    let wide = (are.factors place there).wide in
    let begins : width ≤ at = omega (arith, wide, occurs.begins, ap (λ (t : List ℕ). length t) (literal_is l text place (at + offset) occurs)) in
    let back : at ≡ at + offset - offset = omega arith in
    let key : suffix_key fold text at width ≡ factor_key l place offset =
    (λ i. suffix_key (same i) text (back i) width) ∙ key-occurs_inside l text place (at + offset) width offset bytes (omega (arith, narrow)) wide occurs in
    known width offset (fits.least place there) narrow begins (subst (λ k. HasBit hash_bits (hash_of HASH_BITS k) offset) (sym key) (are.bits.has place there))

-- a hash bit that was found by the last bytes of a word is set
pub read_width : (hash_bits : List ℕ) (word case n width found back : ℕ) → found ≡ slice_index hash_bits (hash_of HASH_BITS (masked_key word n case)) → n ≡ width
    → HasBit hash_bits (hash_of HASH_BITS (masked_key word width case)) back → bit_at found back ≡ 1
read_width hash_bits word case n width found back is same marked = ap (λ m. bit_at m back) (is ∙ ap (λ k. slice_index hash_bits (hash_of HASH_BITS (masked_key word k case))) same) ∙ marked
