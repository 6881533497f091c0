-- The hits that a piece of a stream adds, seen from the last bytes before it.
use Rattle.std.specs.Prelude.{◌≡◌, ℕ, ◌+◌, ◌-◌, ◌<◌, ◌≤◌, List, [], ◌∷◌, ◌++◌, length, take, drop, map, Contains}
use Rattle.std.specs.List.{concat}
use Rattle.std.specs.Global.{Vec}
use Rattle.lit_base.specs.Literals.{Literals}
use Rattle.lit_base.specs.Occurrences.{IsHits}
use Rattle.lit_plan.specs.Bounds.{carry_of}
use Rattle.text_ends.specs.HitsAfter.{AreHitsAfter, GainsHitsAfter}

-- the last bytes of a text, at most `most`
abbrev pub last_bytes : ℕ → List ℕ → List ℕ
last_bytes most text = drop (length text - most) text

-- the tail after a piece: the last bytes of the previous tail and the piece
abbrev pub tail_after : Literals → List ℕ → List ℕ → List ℕ
tail_after l tail piece = last_bytes (carry_of l) (tail ++ piece)

-- the hits that a piece adds after a tail, where the piece begins at position `at` of the stream
abbrev pub AreAdded : Literals → List ℕ → List ℕ → ℕ → List (ℕ × ℕ) → Type 0
AreAdded l tail piece at found = AreHitsAfter l (tail ++ piece) (length tail) at found

-- the hits that pieces add one after the other, the first of them after a tail
abbrev pub AreSteps : Literals → List ℕ → ℕ → List (List ℕ) → List (ℕ × ℕ) → Type 0
AreSteps l tail at [] hits = hits ≡ []
AreSteps l tail at (piece ∷ pieces) hits =
    (found : List (ℕ × ℕ)) × (rest : List (ℕ × ℕ)) × (hits ≡ found ++ rest) × AreAdded l tail piece at found
    × AreSteps l (tail_after l tail piece) (at + length piece) pieces rest

-- a list of hits has gained, at its end, those that a piece adds
abbrev pub GainsHits : Literals → List ℕ → List ℕ → ℕ → List (ℕ × ℕ) → List (ℕ × ℕ) → Type 0
GainsHits l tail piece at = GainsHitsAfter l (tail ++ piece) (length tail) at

-- a search through the first `count` bytes of a piece after a tail: a list of hits has gained those up to there. It
-- stopped before the piece's end only after it had gained `most`, or one where `most` is 0. It stopped at the first
-- such position: the hits from the `most`th on end there
pub record StopsIn (l : Literals) (tail piece : List ℕ) (at most count : ℕ) (old new : List (ℕ × ℕ)) : Type 0 where
  pub within : count ≤ length piece
  pub gained : GainsHits l tail (take count piece) at old new
  pub enough : count < length piece → length old + (most - 1) < length new
  pub least : (hit : ℕ × ℕ) → Contains (drop (length old + (most - 1)) new) hit → hit.1 ≡ at + count
  pub few : length new ≤ length old + (most - 1) + length l.texts

-- steps from no bytes on give the hits of the joined pieces, counted from the base; from 0 on, they are the text's hits
pub record PiecesLaw (l : Literals) (pieces : List (List ℕ)) : Type 0 where
  pub counted : (base : ℕ) (hits : List (ℕ × ℕ)) → AreSteps l [] base pieces hits → AreHitsAfter l (concat pieces) 0 base hits
  pub hits : (hits : List (ℕ × ℕ)) → AreSteps l [] 0 pieces hits → IsHits l (concat pieces) hits

-- the bytes of each piece
abbrev pub bytes_of : List (Vec ℕ) → List (List ℕ)
bytes_of pieces = map (λ piece. piece.items) pieces
