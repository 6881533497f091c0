-- What an automaton reports of a text: at each position, the literals that end there.
use Rattle.std.specs.Prelude.{◌≡◌, ℕ, ◌+◌, ◌<◌, ◌≤◌, ◌↔◌, Bool, true, List, [], Contains, length, min, slice_index, slice_range}
use Rattle.std.specs.List.{sum_by}
use Rattle.std.specs.List.Sorted.{IsStrictlyIncreasing}
use Rattle.lit_base.specs.Literals.{Literals}
use Rattle.lit_base.specs.Occurrences.{Occurs}
use Rattle.text_ends.specs.Walks.{Walk}
use Rattle.text_automaton.specs.declared.reading.Reading.{Reading}
use Rattle.text_automaton.specs.declared.reading.TheConstants.{BLOCK}
use Rattle.text_automaton.specs.declared.tables.TheConstants.{MOST_STATES}

-- the literals, and the output of each state: a range of a list. States below `quiet` have no output
pub record Outputs : Type 0 where
  pub literals : Literals
  pub outputs : List ℕ
  pub lows : List ℕ
  pub highs : List ℕ
  pub quiet : ℕ
  pub is_made : Bool

-- how many states there is room for: one for each byte of the literals and one more, and no more than rows are kept for
abbrev pub room_of : Literals → ℕ
room_of l = min MOST_STATES (sum_by length l.texts + 1)

-- the output of a state
abbrev pub output_of : Outputs → ℕ → List ℕ
output_of a state = slice_range a.outputs (slice_index a.lows state) (slice_index a.highs state)

-- these are the literals that end at a position of a text, in order
pub record AreEnding (l : Literals) (text : List ℕ) (end : ℕ) (found : List ℕ) : Type 0 where
  pub rising : IsStrictlyIncreasing found
  pub members : (place : ℕ) → Contains found place ↔ Occurs l text place end

-- a state belongs to a position: its output is the literals that end there, and its number says whether there are any
pub record IsStateAt (a : Outputs) (text : List ℕ) (end state : ℕ) : Type 0 where
  pub known : state < length a.lows
  pub ending : AreEnding a.literals text end (output_of a state)
  pub quiet : state < a.quiet → output_of a state ≡ []
  pub reporting : a.quiet ≤ state → 0 < length (output_of a state)

-- the states of `count` positions after `start`
abbrev pub AreStatesAfter : Outputs → List ℕ → ℕ → ℕ → List ℕ → Type 0
AreStatesAfter a text start count states = (at : ℕ) → at < count → IsStateAt a text (start + at + 1) (slice_index states at)

-- a reading of a text by an automaton that is made: the states of some positions are known, and those up to the current
-- position are passed
pub record IsReading (a : Outputs) (text : List ℕ) (r : Reading) : Type 0 where
  pub made : a.is_made ≡ true
  pub states : AreStatesAfter a text r.start r.count r.states
  pub passed : r.next ≤ r.count
  pub room : r.count ≤ BLOCK
  pub inside : r.start + r.count ≤ length text

-- the position up to which it is read
abbrev pub place_of : Reading → ℕ
place_of r = r.start + r.next

-- the state of a walk over the ends in a text by an automaton: the walk, and the outputs of the automaton's states
pub record AutomatonWalk : Type 0 where
  pub walk : Walk
  pub automaton : Outputs
