-- Prefixes of literals, and which one a text leads to. Here prefixes and texts stand with their last byte
-- first, so the end of a text begins it.
use Rattle.std.specs.Prelude.{◌≡◌, ℕ, zero, suc, ◌+◌, ◌-◌, ◌<◌, ◌≤◌, List, [], ◌∷◌, ⊤, length, slice_index}
use Rattle.lit_base.specs.Folding.{folded}
use Rattle.lit_base.specs.declared.fold.Fold.{Fold}
use Rattle.text_automaton.specs.Tables.{IsPath, count_of, step}
use Rattle.text_automaton.specs.declared.tables.Tables.{Tables}

-- some bytes begin others
abbrev pub Begins : List ℕ → List ℕ → Type 0
Begins [] r = ⊤
Begins (b ∷ w) [] = ⊥
Begins (b ∷ w) (c ∷ r) = (b ≡ c) × Begins w r

-- the longest of the paths that end the bytes read
pub record Leads (t : Tables) (r s : List ℕ) : Type 0 where
  pub path : IsPath t s
  pub ends : Begins s r
  pub longest : (w : List ℕ) → IsPath t w → Begins w r → Begins w s

-- the longest of the shorter paths that end a path
pub record IsNextShorter (t : Tables) (s f : List ℕ) : Type 0 where
  pub path : IsPath t f
  pub ends : Begins f s
  pub shorter : length f < length s
  pub longest : (w : List ℕ) → IsPath t w → Begins w s → length w < length s → Begins w f

-- the `count` bytes of a text after `from`, folded
abbrev pub read_of : Fold → List ℕ → ℕ → ℕ → List ℕ
read_of fold text from zero = []
read_of fold text from (suc count) = folded fold (slice_index text (from + count)) ∷ read_of fold text from count

-- the state to which they lead from the first one
abbrev pub state_after : Tables → List ℕ → ℕ → ℕ → ℕ
state_after t text from zero = 0
state_after t text from (suc count) = step t (state_after t text from count) (slice_index t.classes (slice_index text (from + count)))

-- a state belongs to a position: the bytes before it lead there, read from the start of the text on, or from far enough
-- before it that literals of `longest` bytes are read whole
pub record IsRead (t : Tables) (text : List ℕ) (longest place to : ℕ) : Type 0 where
  pub from : ℕ
  pub count : ℕ
  pub here : from + count ≡ place
  pub early : from ≤ place - longest
  pub state : to ≡ state_after t text from count
  pub known : to < count_of t
