-- What a contract sees of a `LitList`: its fold, and its literals in normal form.
use Rattle.std.specs.Prelude.{◌≡◌, ℕ, ◌<◌, ◌≤◌, List, [], All, length, map, slice_index_or, sum_by}
use Rattle.std.specs.Ordering.{nat_cmp, on, then_cmp}
use Rattle.std.specs.declared.cmp.Ordering.{Ordering}
use Rattle.std.specs.Cmp.Lexicographic.{slice_cmp}
use Rattle.std.specs.List.Sorted.{IsStrictlySortedBy}
use Rattle.lit_base.specs.declared.fold.Fold.{Fold}
use Rattle.lit_base.specs.Folding.{folded_text}
use Rattle.lit_base.specs.declared.limits.TheConstants.{MAX_LITERALS, MAX_LITERAL_LEN, MAX_LIST_LEN}

-- a fold, and literals
pub record Literals : Type 0 where
  pub folding : Fold
  pub texts : List (List ℕ)

-- the literal at a place, or none
abbrev pub literal_at : Literals → ℕ → List ℕ
literal_at l place = slice_index_or l.texts place []

-- the lengths of the literals, in their order
abbrev pub lengths : Literals → List ℕ
lengths l = map length l.texts

-- the order of literals: by length, then by bytes
abbrev pub literal_cmp : List ℕ → List ℕ → Ordering
literal_cmp = then_cmp (on length nat_cmp) (slice_cmp nat_cmp)

-- literals in normal form: strictly rising, none empty or unfolded, within the limits
pub record IsNormal (l : Literals) : Type 0 where
  pub rising : IsStrictlySortedBy literal_cmp l.texts
  pub nonempty : All (λ t. 0 < length t) l.texts
  pub folded : All (λ t. folded_text l.folding t ≡ t) l.texts
  pub short : All (λ t. length t ≤ MAX_LITERAL_LEN) l.texts
  pub few : length l.texts ≤ MAX_LITERALS
  pub small : sum_by length l.texts ≤ MAX_LIST_LEN
