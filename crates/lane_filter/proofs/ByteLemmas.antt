-- Bytes of a literal stand before each end of it.
use Rattle.std.proofs.Common.{◌≡◌, ℕ, ◌+◌, ◌-◌, ◌*◌, ◌<◌, ◌&&◌, leb, List, [], length, get_or, slice_range, bit_or, inl, inr, sym, ap, subst, ◌∙◌, Some, arith}
use Rattle.std.specs.Int.Bits.{or_zero_r}
use Rattle.std.specs.List.{slice_get}
use Rattle.std.proofs.lemmas.Bool.{cases_Bool, and_parts, leb-true, cond-true, cond-false}
use Rattle.std.proofs.lemmas.List.{get_or-map}
use Rattle.std.proofs.lemmas.List.Edits.{length-between}
use Rattle.std.proofs.lemmas.Nat.{or_block}
use Rattle.std.proofs.lemmas.Option.{get_or_from_slice_get}
use Rattle.lit_base.specs.declared.fold.Fold.{Fold}
use Rattle.lit_base.specs.declared.fold.Fold.TheVariants.{No, Ascii}
use Rattle.lit_base.specs.Folding.{folded}
use Rattle.lit_base.specs.Literals.{Literals}
use Rattle.lit_base.specs.Occurrences.{Occurs}
use Rattle.nib_mask.proofs.LawLemmas.{cases_folded}
use Rattle.nib_mask.proofs.Ranges.{get_or-range}
use Rattle.lane_filter.specs.Pairs.{BytePair, IsPairEnd, IsPairOf}
use Rattle.lane_filter.specs.RareBytes.{IsEndOfByte, IsOnlyByteOf, IsRareByteOf, case_bit}
use Rattle.lane_filter.specs.Triples.{ByteTriple, IsTripleEnd, IsTripleOf, pair_of}
use Rattle.lane_filter.specs.declared.rare_byte.RareByte.{RareByte}

-- the bit of the case in a byte from 32 a on
case_set : (a r : ℕ) → r < 32 → bit_or (a * 32 + r) 32 ≡ bit_or a 1 * 32 + r
case_set a r small = or_block 5 a 1 r 0 small (omega arith) ∙ ap (λ x. bit_or a 1 * 32 + x) (or_zero_r r)

-- with the bit of its case set, a byte is the byte that it folds to
pub case_masked : (fold : Fold) (byte other : ℕ) → folded fold byte ≡ other → bit_or byte (case_bit fold other) ≡ other
case_masked No byte other is = or_zero_r byte ∙ is
case_masked Ascii byte other is =
    elim (cases_Bool (leb 97 other && leb other 122)) [
      | inl letter ↦
          let parts = and_parts (leb 97 other) (leb other 122) letter in
          let low = leb-true 97 other parts.0 in
          let high = leb-true other 122 parts.1 in
          let set : bit_or byte (case_bit Ascii other) ≡ bit_or byte 32 = ap (bit_or byte) (cond-true _ 32 0 letter) in
          elim (cases_folded Ascii byte other is) [
            | inl same ↦
                let split : byte ≡ 3 * 32 + (other - 96) = omega arith in
                set ∙ ap (λ b. bit_or b 32) split ∙ case_set 3 (other - 96) (omega arith) ∙ omega arith
            | inr capital ↦
                let shifted : byte ≡ other - 32 = capital ∙ cond-true _ (other - 32) other letter in
                let split : byte ≡ 2 * 32 + (other - 96) = omega arith in
                set ∙ ap (λ b. bit_or b 32) split ∙ case_set 2 (other - 96) (omega arith) ∙ omega arith
          ]
      | inr no_letter ↦
          let none : bit_or byte (case_bit Ascii other) ≡ byte = ap (bit_or byte) (cond-false _ 32 0 no_letter) ∙ or_zero_r byte in
          elim (cases_folded Ascii byte other is) [
            | inl same ↦ none ∙ same
            | inr capital ↦ none ∙ capital ∙ cond-false _ (other - 32) other no_letter
          ]
    ]

-- where a literal ends, each of its bytes stands before the end
pub rare_stands : (l : Literals) (place : ℕ) (literal : List ℕ) (at : ℕ) (rare : RareByte) → slice_get l.texts place ≡ Some literal → IsRareByteOf l.folding literal at rare
    → (text : List ℕ) (end : ℕ) → Occurs l text place end → IsEndOfByte rare text end
rare_stands l place literal at rare stands_there of text end occurs =
    let same : literal ≡ occurs.literal =
    sym (get_or_from_slice_get l.texts place literal [] stands_there) ∙ get_or_from_slice_get l.texts place occurs.literal [] occurs.stands in
    let is = subst (λ t. IsRareByteOf l.folding t at rare) same of in
    let len = length occurs.literal in
    let begins = occurs.begins in
    let ends = occurs.ends in
    let within = is.within in
    let after = is.after in
    let slice = slice_range text (end - len) end in
    let size = length-between text (end - len) end ends in
    let later : end - len + at - (end - len) ≡ at = omega arith in
    let where_is : end - 1 - rare.after ≡ end - len + at = omega arith in
    let in_slice : get_or slice at 0 ≡ get_or text (end - len + at) 0 =
    ap (λ k. get_or slice k 0) (sym later) ∙ get_or-range text (end - len) end (end - len + at) 0 (omega arith) (omega arith) in
    let here : get_or text (end - 1 - rare.after) 0 ≡ get_or slice at 0 = ap (λ k. get_or text k 0) where_is ∙ sym in_slice in
    let folds : folded l.folding (get_or slice at 0) ≡ get_or occurs.literal at 0 =
    sym (get_or-map (folded l.folding) slice at 0 0 (omega (arith, size))) ∙ ap (λ t. get_or t at 0) occurs.bytes in
    record {
      after = omega arith;
      within = ends;
      stands = (λ i. bit_or (here i) (is.case_bit i)) ∙ case_masked l.folding _ _ folds ∙ sym is.byte;
    }

-- so does its only byte
pub only_stands : (l : Literals) (place : ℕ) (rare : RareByte) → IsOnlyByteOf l place rare → (text : List ℕ) (end : ℕ) → Occurs l text place end → IsEndOfByte rare text end
only_stands l place rare of = rare_stands l place of.literal 0 rare of.stands of.byte

-- so does its pair
pub pair_stands : (l : Literals) (place : ℕ) (pair : BytePair) → IsPairOf l place pair → (text : List ℕ) (end : ℕ) → Occurs l text place end → IsPairEnd pair text end
pair_stands l place pair of text end occurs = (
  rare_stands l place of.literal of.first_place pair.one of.stands of.first text end occurs,
  rare_stands l place of.literal of.second_place pair.other of.stands of.second text end occurs,
)

-- so do its three bytes
pub triple_stands : (l : Literals) (place : ℕ) (triple : ByteTriple) → IsTripleOf l place triple → (text : List ℕ) (end : ℕ) → Occurs l text place end → IsTripleEnd triple text end
triple_stands l place triple of text end occurs =
    let pair = pair_stands l place (pair_of triple) of.pair text end occurs in
    (pair.0, (pair.1, rare_stands l place of.literal of.third_place triple.other.other of.stands of.third text end occurs))
