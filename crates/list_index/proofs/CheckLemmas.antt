-- Checks: a text has the bit of each literal that ends in it.
use Rattle.std.proofs.Common.{◌≡◌, ◌≢◌, ℕ, Fits, ◌+◌, ◌-◌, ◌*◌, ◌%◌, ◌^◌, ◌<◌, ◌≤◌, List, [], length, min, inl, inr, sym, ap, ◌∙◌, arith}
use Rattle.std.specs.Int.{bit_at, bit_not, trailing_zeros, w8}
use Rattle.std.proofs.Math.Facts.{Fits-lt-pow}
use Rattle.std.specs.Int.RustNames.{bit_and}
use Rattle.std.specs.List.{slice_range}
use Rattle.std.proofs.lemmas.Bool.{cases_eq, cases_lt}
use Rattle.std.proofs.lemmas.Bool.Decides.{nat_tests}
use Rattle.std.proofs.lemmas.Nat.{and_le_l}
use Rattle.std.proofs.lemmas.Nat.Bits.{bit_at-trailing_zeros, bit_at-zero, bit_at_and, bit_at_clear_other, bit_at_clear_same, bit_at_or, bit_at_set_same}
use Rattle.std.proofs.lemmas.Map.Keys.{Less-from_sorted}
use Rattle.std.proofs.lemmas.Option.{get_or_from_slice_get, slice_get_within}
use Rattle.list_index.specs.declared.suffixes.checks.SuffixChecks.{SuffixChecks}
use Rattle.list_index.specs.Chains.{HaveWidths, NoneKeyedEnds, key_width_at}
use Rattle.list_index.specs.Checks.{AreChecksOf, checked_width}
use Rattle.lit_base.specs.Literals.{IsNormal, Literals, literal_cmp, literal_at}
use Rattle.lit_base.specs.Occurrences.{Occurs}
use Rattle.lit_base.specs.Folding.{folded_text}
use Rattle.list_index.specs.HashBits.{HasBit}
use Rattle.list_index.specs.Suffixes.{hash_of, key_width, masked_key}
use Rattle.list_index.specs.declared.suffixes.checks.TheConstants.{CHECK_BITS}
use Rattle.lit_base.proofs.InsertLemmas.{literal_total}
use Rattle.lit_base.proofs.SortedLists.{not_below}

-- as many bytes are checked: all of a short key or the most, and of a key of eight bytes all
pub checked_short : (most width : ℕ) → width < 8 → checked_width most width ≡ min width most
checked_short most width short = grind (arith, nat_tests)

pub checked_within : (most width : ℕ) → checked_width most width ≤ width
checked_within most width = grind (arith, nat_tests)

-- the checks have the bit of a key width, by the hash of the last bytes of a word
abbrev pub IsChecked : SuffixChecks → ℕ → ℕ → ℕ → Type 0
IsChecked checks word bytes width = HasBit checks.widths.items (hash_of CHECK_BITS (masked_key word bytes checks.case_bits)) (width - 1)

-- a mask of one bit has the bit
pub one_bit : (back : ℕ) → back < 8 → bit_at (1 * 2 ^ back % 256) back ≡ 1
one_bit back low = omega (arith, bit_at_set_same w8 0 back low, bit_at_or 0 (1 * 2 ^ back % 256) back, bit_at-zero back)

-- a mask keeps the bits that it has
pub bit_kept : (byte mask back : ℕ) → bit_at mask back ≡ 1 → bit_at byte back ≡ 1 → bit_at (bit_and byte mask) back ≡ 1
bit_kept byte mask back masked has = omega (arith, masked, has, bit_at_and byte mask back)

-- a literal that ends somewhere has a key of at least one byte
key_width_some : (l : Literals) (checks : SuffixChecks) (text : List ℕ) (place end : ℕ) → AreChecksOf l checks → Occurs l text place end → 0 < key_width_at l place
key_width_some l checks text place end is occurs =
    let there = slice_get_within l.texts place occurs.literal occurs.stands in
    omega (arith, is.some, is.wide place there)

-- a number is that of the lowest bit of some widths
pub record IsLowest (widths low : ℕ) : Type 0 where
  pub small : low < 8
  pub has : bit_at widths low ≡ 1
  pub none : (i : ℕ) → i < low → bit_at widths i ≡ 0

pub lowest_of : (widths : ℕ) → 0 < widths → Fits w8 widths → IsLowest widths (trailing_zeros w8 widths)
lowest_of widths some fits = let is = bit_at-trailing_zeros w8 widths some (Fits-lt-pow fits) in record { small = is.0; has = is.1; none = is.2 }

-- without it the widths are fewer
pub fewer_widths : (widths low : ℕ) → IsLowest widths low → bit_and widths (bit_not w8 (1 * 2 ^ low % 256)) < widths
fewer_widths widths low lowest =
    let left : ℕ = bit_and widths (bit_not w8 (1 * 2 ^ low % 256)) in
    elim (cases_eq left widths) [
      | inl same ↦ absurd (omega (arith, bit_at_clear_same w8 widths low lowest.small, lowest.has, ap (λ n. bit_at n low) same))
      | inr other ↦ omega (arith, other, and_le_l widths (bit_not w8 (1 * 2 ^ low % 256)))
    ]

module _ (l : Literals) (checks : SuffixChecks) (is : AreChecksOf l checks) (text : List ℕ) (from end widths low : ℕ) (have : HaveWidths l text from end widths) (lowest : IsLowest widths low) where
  -- no literal with a narrower key ends there
  pub narrower_none : (place : ℕ) → from ≤ place → key_width_at l place < low + 1 → ¬ Occurs l text place end
  narrower_none place counted narrow occurs =
      let some = key_width_some l checks text place end is occurs in
      absurd (omega (arith, have place counted occurs, lowest.none (key_width_at l place - 1) (omega arith)))

  -- where no literal of this width does, the bits of the others stay without it
  pub widths_left : NoneKeyedEnds l text from end (low + 1) → HaveWidths l text from end (bit_and widths (bit_not w8 (1 * 2 ^ low % 256)))
  widths_left none place counted occurs =
      let some = key_width_some l checks text place end is occurs in
      let other : key_width_at l place - 1 ≢ low = λ e. none place counted (omega arith) occurs in
      bit_at_clear_other w8 widths low lowest.small (key_width_at l place - 1) (omega arith) other ∙ have place counted occurs

-- no two literals of one length end at one place
ends_once : (l : Literals) → IsNormal l → (text : List ℕ) (place other end : ℕ) → Occurs l text place end → Occurs l text other end → length (literal_at l place) ≡ length (literal_at l other) → place < other → ⊥
ends_once l normal text place other end one two len before =
    let here : literal_at l place ≡ one.literal = get_or_from_slice_get l.texts place one.literal [] one.stands in
    let there : literal_at l other ≡ two.literal = get_or_from_slice_get l.texts other two.literal [] two.stands in
    let lens : length one.literal ≡ length two.literal = sym (ap length here) ∙ len ∙ ap length there in
    let same : one.literal ≡ two.literal = sym one.bytes ∙ ap (λ n. folded_text l.folding (slice_range text (end - n) end)) lens ∙ two.bytes in
    let inside = slice_get_within l.texts other two.literal two.stands in
    not_below literal_cmp literal_total (literal_at l place) (literal_at l other) (Less-from_sorted literal_cmp l.texts place other [] normal.rising before inside) (here ∙ same ∙ sym there)

-- after a literal that ends there, the bits of the others stay without the bit of its length, unless its key is the
-- widest
pub others_left : (l : Literals) → IsNormal l → (checks : SuffixChecks) → AreChecksOf l checks → (text : List ℕ) (from end place len widths left : ℕ) → Occurs l text place end → from ≤ place + 1 → key_width_at l place ≡ key_width len
    → HaveWidths l text from end widths → ((width : ℕ) → 0 < width → width ≤ 8 → (width ≡ len → width ≡ 8) → bit_at widths (width - 1) ≡ 1 → bit_at left (width - 1) ≡ 1)
    → HaveWidths l text (place + 1) end left
others_left l normal checks is text from end place len widths left one counted keyed have stays other later two =
    let width : ℕ = key_width_at l other in
    let widest : width ≡ len → width ≡ 8 = λ e. elim (cases_lt width 8) [
      | inl narrow ↦ absurd (ends_once l normal text place other end one two (omega arith) (omega arith))
      | inr wide ↦ omega arith
    ] in
    stays width (key_width_some l checks text other end is two) (omega arith) widest (have other (omega arith) two)
