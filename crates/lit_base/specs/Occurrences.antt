-- Where literals occur in a text, and the list of all hits.
use Rattle.std.specs.Prelude.{◌≡◌, ℕ, ◌-◌, ◌<◌, ◌≤◌, ◌↔◌, List, length, Contains, Some, slice_range}
use Rattle.std.specs.Ordering.{nat_cmp, on, then_cmp}
use Rattle.std.specs.declared.cmp.Ordering.{Ordering}
use Rattle.std.specs.List.{slice_get}
use Rattle.std.specs.List.Sorted.{IsStrictlySortedBy}
use Rattle.lit_base.specs.Folding.{folded_text}
use Rattle.lit_base.specs.Literals.{Literals}

-- the literal at a place of the list ends at a position of the text: the slice of its length that ends there, folded,
-- is the literal
pub record Occurs (l : Literals) (text : List ℕ) (place end : ℕ) : Type 0 where
  pub literal : List ℕ
  pub stands : slice_get l.texts place ≡ Some literal
  pub begins : length literal ≤ end
  pub ends : end ≤ length text
  pub bytes : folded_text l.folding (slice_range text (end - length literal) end) ≡ literal

-- some literal ends at a position of the text
abbrev pub HasEnd : Literals → List ℕ → ℕ → Type 0
HasEnd l text end = (place : ℕ) × Occurs l text place end

-- none of the literals from a place of the list on ends at a position of the text
abbrev pub NoneEnds : Literals → List ℕ → ℕ → ℕ → Type 0
NoneEnds l text from end = (place : ℕ) → from ≤ place → ¬ Occurs l text place end

-- of the literals from a place of the list on, the first that ends at a position of the text
pub record IsFirstEnding (l : Literals) (text : List ℕ) (from end place : ℕ) : Type 0 where
  pub counted : from ≤ place
  pub occurs : Occurs l text place end
  pub first : (other : ℕ) → from ≤ other → other < place → ¬ Occurs l text other end

-- the order of hits, each a literal's place and an end: by end, and by place where they end together
abbrev pub hit_cmp : ℕ × ℕ → ℕ × ℕ → Ordering
hit_cmp = then_cmp (on (λ hit. hit.1) nat_cmp) (on (λ hit. hit.0) nat_cmp)

-- the hits in a text: they strictly rise, and are exactly the occurrences
pub record IsHits (l : Literals) (text : List ℕ) (hits : List (ℕ × ℕ)) : Type 0 where
  pub rising : IsStrictlySortedBy hit_cmp hits
  pub members : (place end : ℕ) → Contains hits (place, end) ↔ Occurs l text place end

-- there are no others: hits of one list in one text are one list
abbrev pub AreOneList : Type 0
AreOneList = (l : Literals) (text : List ℕ) (hits others : List (ℕ × ℕ)) → IsHits l text hits → IsHits l text others → hits ≡ others
