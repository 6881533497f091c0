-- When the tables of an automaton are right: the conditions that are checked, state by state.
use Rattle.std.specs.Prelude.{◌≡◌, ℕ, zero, suc, ◌+◌, ◌*◌, ◌<◌, ◌≤◌, ◌⊎◌, List, [], ◌∷◌, ◌++◌, ⊤, length, slice_index, slice_range}
use Rattle.std.specs.List.Sorted.{IsStrictlyIncreasing}
use Rattle.lit_base.specs.Folding.{folded}
use Rattle.lit_base.specs.Literals.{Literals, literal_at}
use Rattle.lit_base.specs.declared.fold.Fold.{Fold}
use Rattle.text_automaton.specs.declared.tables.Tables.{Tables}
use Rattle.text_automaton.specs.declared.tables.TheConstants.{CLASSES, MOST_STATES}

-- how many states there are
abbrev pub count_of : Tables → ℕ
count_of t = length t.parents.items

-- to which state a byte of a class leads from one
abbrev pub step : Tables → ℕ → ℕ → ℕ
step t state class = slice_index t.rows.items (CLASSES * state + class)

-- the output of a state
abbrev pub output_at : Tables → ℕ → List ℕ
output_at t state = slice_range t.outputs.items (slice_index t.lows.items state) (slice_index t.highs.items state)

-- each state has a row and all other entries
pub record AreAsMany (t : Tables) : Type 0 where
  pub some : 0 < count_of t
  pub few : count_of t ≤ MOST_STATES
  pub rows : length t.rows.items ≡ CLASSES * count_of t
  pub lasts : length t.lasts.items ≡ count_of t
  pub fails : length t.fails.items ≡ count_of t
  pub owns : length t.owns.items ≡ count_of t
  pub lows : length t.lows.items ≡ count_of t
  pub highs : length t.highs.items ≡ count_of t

-- and each entry is a state, or a range of the outputs
pub record AreSized (t : Tables) : Type 0 where
  pub many : AreAsMany t
  pub stepped : (i : ℕ) → i < length t.rows.items → slice_index t.rows.items i < count_of t
  pub known : (state : ℕ) → state < count_of t → (slice_index t.parents.items state < count_of t) × (slice_index t.fails.items state < count_of t)
      × (slice_index t.lows.items state ≤ slice_index t.highs.items state) × (slice_index t.highs.items state ≤ length t.outputs.items)

-- a byte has the class of its folded byte, and each class but 0 belongs to one folded byte
abbrev pub AreClasses : Fold → List ℕ → List ℕ → Type 0
AreClasses fold classes bytes = (byte : ℕ) → byte < 256 → (slice_index classes byte < CLASSES) × (slice_index classes byte ≡ slice_index classes (folded fold byte))
    × (0 < slice_index classes byte → slice_index bytes (slice_index classes byte) ≡ folded fold byte)

-- each byte has a class
abbrev pub HaveClasses : Tables → Type 0
HaveClasses t = (byte : ℕ) → byte < 256 → slice_index t.classes byte < CLASSES

-- `to` stands for the prefix of `state` with a byte of a class added
abbrev pub IsChild : Tables → ℕ → ℕ → ℕ → Type 0
IsChild t state class to = (0 < class) × (0 < to) × (slice_index t.parents.items to ≡ state) × (slice_index t.lasts.items to ≡ class)

-- a byte leads to the state of the longer prefix; if no prefix is longer by it, it leads where it does from the failure
-- link
abbrev pub IsStep : Tables → ℕ → ℕ → Type 0
IsStep t state class = IsChild t state class (step t state class) ⊎ ((¬ IsChild t state class (step t state class))
    × (((state ≡ 0) × (step t state class ≡ 0)) ⊎ ((0 < state) × (step t state class ≡ step t (slice_index t.fails.items state) class))))

-- the failure link of a state is where its last byte leads from the failure link of its parent
abbrev pub IsFail : Tables → ℕ → Type 0
IsFail t state = ((slice_index t.parents.items state ≡ 0) × (slice_index t.fails.items state ≡ 0))
    ⊎ ((0 < slice_index t.parents.items state)
    × (slice_index t.fails.items state ≡ step t (slice_index t.fails.items (slice_index t.parents.items state)) (slice_index t.lasts.items state)))

-- the output of a state is the output of its failure link and the literal that it spells, in order; the state's number
-- says whether it has any
pub record IsOutputRight (t : Tables) (count state : ℕ) : Type 0 where
  pub own : slice_index t.owns.items state < count → slice_index t.ends.items (slice_index t.owns.items state) ≡ state
  pub first : state ≡ 0 → output_at t state ≡ []
  pub others : 0 < state → ((slice_index t.owns.items state < count) × (output_at t state ≡ output_at t (slice_index t.fails.items state) ++ slice_index t.owns.items state ∷ []))
      ⊎ ((count ≤ slice_index t.owns.items state) × (output_at t state ≡ output_at t (slice_index t.fails.items state)))
  pub rising : IsStrictlyIncreasing (output_at t state)
  pub quiet : state < t.quiet → output_at t state ≡ []
  pub reporting : t.quiet ≤ state → 0 < length (output_at t state)

-- a state is right, for a list of `count` literals: where each byte leads, its failure link and its output
pub record IsState (t : Tables) (count state : ℕ) : Type 0 where
  pub steps : (class : ℕ) → class < CLASSES → IsStep t state class
  pub fail : IsFail t state
  pub output : IsOutputRight t count state

-- the state to which some bytes lead from the first one, the last byte first
abbrev pub state_of : Tables → List ℕ → ℕ
state_of t [] = 0
state_of t (byte ∷ before) = step t (state_of t before) (slice_index t.classes byte)

-- the first `count` bytes of a text, last byte first
abbrev pub prefix_of : List ℕ → ℕ → List ℕ
prefix_of text zero = []
prefix_of text (suc count) = slice_index text count ∷ prefix_of text count

-- a byte is the one of its class
pub record IsKnown (t : Tables) (byte : ℕ) : Type 0 where
  pub class : slice_index t.classes byte < CLASSES
  pub own : 0 < slice_index t.classes byte → slice_index t.bytes (slice_index t.classes byte) ≡ byte

-- each byte leads to a longer prefix
abbrev pub IsPath : Tables → List ℕ → Type 0
IsPath t [] = ⊤
IsPath t (b ∷ s) = IsPath t s × IsKnown t b × IsChild t (state_of t s) (slice_index t.classes b) (step t (state_of t s) (slice_index t.classes b))

-- a literal's bytes lead from prefix to prefix, the last to its state
pub record IsSpelled (t : Tables) (l : Literals) (place : ℕ) : Type 0 where
  pub path : IsPath t (prefix_of (literal_at l place) (length (literal_at l place)))
  pub end : state_of t (prefix_of (literal_at l place) (length (literal_at l place))) ≡ slice_index t.ends.items place
  pub own : slice_index t.owns.items (slice_index t.ends.items place) ≡ place

-- all of it
pub record AreRight (t : Tables) (l : Literals) : Type 0 where
  pub sized : AreSized t
  pub classes : AreClasses l.folding t.classes t.bytes
  pub states : (state : ℕ) → state < count_of t → IsState t (length l.texts) state
  pub spelled : (place : ℕ) → place < length l.texts → IsSpelled t l place
