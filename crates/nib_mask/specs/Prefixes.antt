-- Tables over prefixes of literals: over up to three last bytes of each prefix.
use Rattle.std.specs.Prelude.{◌≡◌, ℕ, ◌-◌, ◌%◌, ◌<◌, ◌||◌, not, true, Bool, List, All, length, take, slice_index}
use Rattle.std.specs.Int.{bit_at}
use Rattle.lit_base.specs.declared.fold.Fold.{Fold}
use Rattle.lit_base.specs.Literals.{Literals, literal_at}
use Rattle.lit_base.specs.Occurrences.{Occurs}
use Rattle.nib_mask.specs.declared.half.Half.{Half}
use Rattle.nib_mask.specs.declared.masks.Masks.{Masks}
use Rattle.nib_mask.specs.Candidates.{IsCandidate}
use Rattle.nib_mask.specs.FilterSet.{has_half, reaches}

-- a literal without its last bytes, as many as its offset says
abbrev pub prefix_at : Literals → ℕ → ℕ → List ℕ
prefix_at l place offset = take (length (literal_at l place) - offset) (literal_at l place)

-- a prefix keeps its bucket at a table's entry: it does not reach the position, or has a byte with that half there
abbrev pub keeps_prefix : Fold → ℕ → Half → ℕ → List ℕ → Bool
keeps_prefix fold position half value prefix = not (reaches position prefix) || has_half fold position half value prefix

-- an entry has the bucket's bit of each prefix that keeps it, among the first `count` literals
abbrev pub KeepsPrefixes : Literals → ℕ → List ℕ → List ℕ → ℕ → Half → ℕ → ℕ → Type 0
KeepsPrefixes l count offsets buckets position half value entry = (place : ℕ) → place < count → keeps_prefix l.folding position half value (prefix_at l place (slice_index offsets place)) ≡ true → bit_at entry (slice_index buckets place % 8) ≡ 1

-- tables over prefixes miss no occurrence of the first `count` literals: where the prefix ends, there is a candidate
abbrev pub CoversPrefixes : Literals → ℕ → List ℕ → Masks → Type 0
CoversPrefixes l count offsets masks = (text : List ℕ) (place end : ℕ) → All (λ b. b < 256) text → place < count → slice_index offsets place < length (literal_at l place) → Occurs l text place end → IsCandidate masks text (end - slice_index offsets place)
