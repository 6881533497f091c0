-- The filter set of three bytes: the buckets whose literals may end with them, judged by the halves of the bytes.
use Rattle.std.specs.Prelude.{ℕ, ◌+◌, ◌-◌, ◌/◌, ◌%◌, ◌==◌, ◌&&◌, ◌||◌, not, nat_le, if◌then◌else◌, Bool, List, length, slice_index}
use Rattle.std.specs.List.{list_all, list_any}
use Rattle.lit_base.specs.declared.fold.Fold.{Fold}
use Rattle.lit_base.specs.declared.fold.Fold.TheVariants.{No, Ascii}
use Rattle.lit_base.specs.Literals.{Literals}
use Rattle.nib_mask.specs.declared.half.Half.{Half}
use Rattle.nib_mask.specs.declared.half.Half.TheVariants.{Low, High}
use Rattle.nib_mask.specs.Runs.{runs_mask}

-- half a byte: its low four bits or its high four
abbrev pub half_of : Half → ℕ → ℕ
half_of Low byte = byte % 16
half_of High byte = byte / 16

-- the other byte that the fold takes for a byte of a folded literal: the capital of a small letter
abbrev pub capital : Fold → ℕ → ℕ
capital No byte = byte
capital Ascii byte = if nat_le 97 byte && nat_le byte 122 then byte - 32 else byte

-- a literal has a byte at the position; 2 is its last byte, 1 the byte before, 0 the byte before both
abbrev pub reaches : ℕ → List ℕ → Bool
reaches position literal = nat_le 3 (length literal + position)

-- it has one there that, small or as a capital, has this half
unfoldable pub has_half : Fold → ℕ → Half → ℕ → List ℕ → Bool
has_half fold position half value literal =
    let byte = slice_index literal (length literal + position - 3) in
    reaches position literal && (half_of half byte == value || half_of half (capital fold byte) == value)

-- a run uses the positions that its shortest literal reaches, and so all of them
unfoldable pub is_used : ℕ → List (List ℕ) → Bool
is_used position run = list_all (reaches position) run

-- some literal of the run has a byte with this half at the position
unfoldable pub shares_half : Fold → ℕ → Half → ℕ → List (List ℕ) → Bool
shares_half fold position half value run = list_any (has_half fold position half value) run

-- a position keeps the run if it is not used, or the run shares both halves of the byte, be it by two literals
unfoldable pub passes_at : Fold → ℕ → ℕ → List (List ℕ) → Bool
passes_at fold position byte run =
    not (is_used position run)
    || (shares_half fold position Low (half_of Low byte) run && shares_half fold position High (half_of High byte) run)

-- all three positions keep the run
unfoldable pub passes : Fold → ℕ → ℕ → ℕ → List (List ℕ) → Bool
passes fold a b c run = (passes_at fold 0 a run && passes_at fold 1 b run) && passes_at fold 2 c run

-- the filter set of three bytes, for literals and a cut of them: the number whose bit b says whether bucket b is in it
unfoldable pub filter_set : Literals → List ℕ → ℕ → ℕ → ℕ → ℕ
filter_set l ends a b c = runs_mask (passes l.folding a b c) l.texts 0 ends
