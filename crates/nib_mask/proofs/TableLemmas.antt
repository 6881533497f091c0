-- What tables made entry by entry say of three bytes, and that no occurrence goes past them.
use Rattle.std.proofs.Common.{◌≡◌, ℕ, zero, suc, ◌+◌, ◌-◌, ◌/◌, ◌%◌, ◌<◌, ◌≤◌, ◌&&◌, ◌||◌, not, Bool, true, false, List, [], ◌∷◌, length, get_or, bit_and, All, inl, inr, refl, sym, ap, ◌∙◌, arith}
use Rattle.std.specs.Int.{bit_at}
use Rattle.std.proofs.lemmas.List.{get_or_past}
use Rattle.std.proofs.lemmas.Bool.{cases_lt}
use Rattle.std.proofs.lemmas.Nat.Bits.{bit_at-zero}
use Rattle.std.proofs.lemmas.Option.{get_or_from_slice_get, slice_get_within}
use Rattle.lit_base.specs.declared.fold.Fold.{Fold}
use Rattle.lit_base.specs.Cuts.{IsCut}
use Rattle.lit_base.specs.Literals.{Literals}
use Rattle.lit_base.specs.Occurrences.{Occurs}
use Rattle.nib_mask.specs.declared.half.Half.{Half}
use Rattle.nib_mask.specs.declared.half.Half.TheVariants.{Low, High}
use Rattle.nib_mask.specs.declared.masks.Masks.{Masks}
use Rattle.nib_mask.specs.Candidates.{Covers, GivesFilterSets, filter_number_at, filter_set_at}
use Rattle.nib_mask.specs.FilterSet.{filter_set, is_used, passes, passes_at, shares_half}
use Rattle.nib_mask.specs.Runs.{bucket_of, runs_mask}
use Rattle.nib_mask.specs.Tables.{allows, table_value, value_at}
use Rattle.nib_mask.proofs.Buckets.{runs_mask-and}
use Rattle.nib_mask.proofs.LawLemmas.{bit_at-occurs}

-- what holds of the entries of all six tables, by position, half and the half's value
pub record HaveEntries (P : ℕ → Half → ℕ → ℕ → Type 0) (masks : Masks) : Type 0 where
  pub low_0 : (value : ℕ) → value < 16 → P 0 Low value (get_or (get_or masks.low 0 []) value 0)
  pub low_1 : (value : ℕ) → value < 16 → P 1 Low value (get_or (get_or masks.low 1 []) value 0)
  pub low_2 : (value : ℕ) → value < 16 → P 2 Low value (get_or (get_or masks.low 2 []) value 0)
  pub high_0 : (value : ℕ) → value < 16 → P 0 High value (get_or (get_or masks.high 0 []) value 0)
  pub high_1 : (value : ℕ) → value < 16 → P 1 High value (get_or (get_or masks.high 1 []) value 0)
  pub high_2 : (value : ℕ) → value < 16 → P 2 High value (get_or (get_or masks.high 2 []) value 0)

-- an entry is the number of the runs that a table keeps there
abbrev pub IsEntryOf : Literals → List ℕ → ℕ → Half → ℕ → ℕ → Type 0
IsEntryOf l ends position half value entry = entry ≡ runs_mask (allows l.folding position half value) l.texts 0 ends

-- kept by both is kept by a table for both
distribute : (u x y : Bool) → ((not u || x) && (not u || y)) ≡ (not u || (x && y))
distribute true x y = refl
distribute false x y = refl

-- two tables keep the runs that pass at the position
allows-both : (fold : Fold) (position byte : ℕ) (run : List (List ℕ)) → (allows fold position Low (byte % 16) run && allows fold position High (byte / 16) run) ≡ passes_at fold position byte run
unfolding allows passes_at
allows-both fold position byte run =
    distribute (is_used position run) (shares_half fold position Low (byte % 16) run) (shares_half fold position High (byte / 16) run)

-- what a byte has at a position is the number of the runs that pass there
value_at-is : (l : Literals) (ends : List ℕ) (masks : Masks) (position byte : ℕ) → byte < 256
    → ((value : ℕ) → value < 16 → IsEntryOf l ends position Low value (get_or (get_or masks.low position []) value 0))
    → ((value : ℕ) → value < 16 → IsEntryOf l ends position High value (get_or (get_or masks.high position []) value 0))
    → value_at masks position byte ≡ runs_mask (passes_at l.folding position byte) l.texts 0 ends
unfolding value_at
value_at-is l ends masks position byte small low high =
    (λ i. bit_and (low (byte % 16) (omega arith) i) (high (byte / 16) (omega arith) i))
    ∙ runs_mask-and (allows l.folding position Low (byte % 16)) (allows l.folding position High (byte / 16)) l.texts 0 ends
    ∙ (λ i. runs_mask (λ run. allows-both l.folding position byte run i) l.texts 0 ends)

-- the filter number of three bytes is their filter set
pub table_value-is : (l : Literals) (ends : List ℕ) (masks : Masks) → HaveEntries (IsEntryOf l ends) masks → GivesFilterSets l ends masks
unfolding table_value filter_set passes
table_value-is l ends masks tables a b c small_a small_b small_c =
    let at_0 = value_at-is l ends masks 0 a small_a tables.low_0 tables.high_0 in
    let at_1 = value_at-is l ends masks 1 b small_b tables.low_1 tables.high_1 in
    let at_2 = value_at-is l ends masks 2 c small_c tables.low_2 tables.high_2 in
    (λ i. bit_and (bit_and (at_0 i) (at_1 i)) (at_2 i))
    ∙ ap (λ n. bit_and n (runs_mask (passes_at l.folding 2 c) l.texts 0 ends)) (runs_mask-and (passes_at l.folding 0 a) (passes_at l.folding 1 b) l.texts 0 ends)
    ∙ runs_mask-and (λ run. passes_at l.folding 0 a run && passes_at l.folding 1 b run) (passes_at l.folding 2 c) l.texts 0 ends

-- a byte of a text, or the 0 read past its end
byte-lt : (text : List ℕ) (i : ℕ) → All (λ b. b < 256) text → get_or text i 0 < 256
byte-lt text i bytes =
    elim (cases_lt i (length text)) [
      | inl inside ↦ bytes i 0 inside
      | inr past ↦ omega (arith, get_or_past text i 0 past)
    ]

-- with two zero bytes before the text each is a byte too
pub padded-lt : (text : List ℕ) (i : ℕ) → All (λ b. b < 256) text → get_or (0 ∷ 0 ∷ text) i 0 < 256
padded-lt text zero bytes = omega arith
padded-lt text (suc zero) bytes = omega arith
padded-lt text (suc (suc i)) bytes = byte-lt text i bytes

-- an occurrence of a literal that is not empty ends past the text's first place
pub some-occurs : (l : Literals) (text : List ℕ) (place end : ℕ) → All (λ t. 0 < length t) l.texts → Occurs l text place end → 1 ≤ end
some-occurs l text place end nonempty occurs =
    let stands = get_or_from_slice_get l.texts place occurs.literal [] occurs.stands in
    let some = nonempty place [] (slice_get_within l.texts place occurs.literal occurs.stands) in
    let begins = occurs.begins in
    omega (arith, some, ap (λ (t : List ℕ). length t) stands, begins)

-- no occurrence goes past tables whose filter numbers are the filter sets
pub covers-from_set : (l : Literals) (ends : List ℕ) (masks : Masks) → IsCut 16 (length l.texts) ends → All (λ t. 0 < length t) l.texts → GivesFilterSets l ends masks → Covers l masks
covers-from_set l ends masks cut nonempty set text place end bytes occurs = record {
  some = some-occurs l text place end nonempty occurs;
  within = occurs.ends;
  marked = λ none.
      let before = 0 ∷ 0 ∷ [] in
      let same : filter_number_at masks before text end ≡ filter_set_at l ends before text end =
      set _ _ _ (padded-lt text (end - 1) bytes) (padded-lt text end bytes) (padded-lt text (end + 1) bytes) in
      let bit = bit_at-occurs l ends text before place end cut refl occurs in
      let zero_bit = ap (λ n. bit_at n (bucket_of ends place)) (sym same ∙ none) ∙ bit_at-zero (bucket_of ends place) in
      omega (arith, bit, zero_bit);
}
