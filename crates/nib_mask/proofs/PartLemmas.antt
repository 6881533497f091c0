-- Tables whose entries are parts of the entries of others give that part of what the others give.
use Rattle.std.proofs.Common.{◌≡◌, ℕ, ◌/◌, ◌%◌, ◌<◌, List, [], get_or, bit_and, sym, ◌∙◌, arith}
use Rattle.std.proofs.lemmas.Nat.{and_mod, and_shr}
use Rattle.nib_mask.specs.declared.half.Half.{Half}
use Rattle.nib_mask.specs.declared.half.Half.TheVariants.{Low, High}
use Rattle.nib_mask.specs.declared.masks.Masks.{Masks}
use Rattle.nib_mask.specs.declared.byte_masks.ByteMasks.{ByteMasks}
use Rattle.nib_mask.specs.Halves.{GivesPart, widened}
use Rattle.nib_mask.specs.Tables.{table_value, value_at}
use Rattle.nib_mask.proofs.TableLemmas.{HaveEntries}

-- the tables of masks by one half
abbrev pub tables_by : Half → Masks → List (List ℕ)
tables_by Low masks = masks.low
tables_by High masks = masks.high

-- an entry is a part of the entry of the other tables
abbrev pub IsPartOf : (ℕ → ℕ) → Masks → ℕ → Half → ℕ → ℕ → Type 0
IsPartOf part masks position half value entry = entry ≡ part (get_or (get_or (tables_by half masks) position []) value 0)

-- the part of what two numbers both have is what their parts both have
abbrev pub KeepsBoth : (ℕ → ℕ) → Type 0
KeepsBoth part = (a b : ℕ) → part (bit_and a b) ≡ bit_and (part a) (part b)

pub low-keeps : KeepsBoth (λ n. n % 256)
low-keeps a b = and_mod a b 8

pub high-keeps : KeepsBoth (λ n. n / 256)
high-keeps a b = and_shr a b 8

-- so is what a byte has at a position
value-part : (part : ℕ → ℕ) (masks : Masks) (half : ByteMasks) (position byte : ℕ) → KeepsBoth part → byte < 256
    → ((value : ℕ) → value < 16 → IsPartOf part masks position Low value (get_or (get_or half.low position []) value 0))
    → ((value : ℕ) → value < 16 → IsPartOf part masks position High value (get_or (get_or half.high position []) value 0))
    → value_at (widened half) position byte ≡ part (value_at masks position byte)
unfolding value_at
value-part part masks half position byte keeps small low high =
    (λ i. bit_and (low (byte % 16) (omega arith) i) (high (byte / 16) (omega arith) i)) ∙ sym (keeps _ _)

-- and what three bytes have
pub gives-part : (part : ℕ → ℕ) (masks : Masks) (half : ByteMasks) → KeepsBoth part → HaveEntries (IsPartOf part masks) (widened half) → GivesPart part masks half
unfolding table_value
gives-part part masks half keeps parts a b c small_a small_b small_c =
    let at_0 = value-part part masks half 0 a keeps small_a parts.low_0 parts.high_0 in
    let at_1 = value-part part masks half 1 b keeps small_b parts.low_1 parts.high_1 in
    let at_2 = value-part part masks half 2 c keeps small_c parts.low_2 parts.high_2 in
    (λ i. bit_and (bit_and (at_0 i) (at_1 i)) (at_2 i)) ∙ (λ i. bit_and (sym (keeps (value_at masks 0 a) (value_at masks 1 b)) i) (part (value_at masks 2 c))) ∙ sym (keeps _ _)
