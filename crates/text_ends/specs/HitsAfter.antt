-- The hits after a position of a text.
use Rattle.std.specs.Prelude.{◌≡◌, ℕ, ◌+◌, ◌-◌, ◌<◌, ◌≤◌, ◌↔◌, List, ◌++◌, length, take, drop, Contains}
use Rattle.std.specs.List.Sorted.{IsStrictlySortedBy}
use Rattle.lit_base.specs.Literals.{Literals}
use Rattle.lit_base.specs.Occurrences.{IsHits, Occurs, hit_cmp}

-- the hits that end in a text after the position `from`, which counts as `at`
pub record AreHitsAfter (l : Literals) (text : List ℕ) (from at : ℕ) (found : List (ℕ × ℕ)) : Type 0 where
  pub rising : IsStrictlySortedBy hit_cmp found
  pub members : (place end : ℕ) → Contains found (place, end) ↔ ((at < end) × Occurs l text place (from + (end - at)))

-- a list of hits has gained, at its end, those that end in a text after a position
pub record GainsHitsAfter (l : Literals) (text : List ℕ) (from at : ℕ) (old new : List (ℕ × ℕ)) : Type 0 where
  pub found : List (ℕ × ℕ)
  pub grown : new ≡ old ++ found
  pub added : AreHitsAfter l text from at found

-- a search through a text has stopped at a position: a list of hits has gained those up to there. It stopped before the
-- text's end only after it had gained `most`, or one where `most` is 0. It stopped at the first such position: the hits
-- from the `most`th on end there
pub record StopsAt (l : Literals) (text : List ℕ) (from at most stop : ℕ) (old new : List (ℕ × ℕ)) : Type 0 where
  pub after : from ≤ stop
  pub within : stop ≤ length text
  pub gained : GainsHitsAfter l (take stop text) from at old new
  pub enough : stop < length text → length old + (most - 1) < length new
  pub least : (hit : ℕ × ℕ) → Contains (drop (length old + (most - 1)) new) hit → hit.1 ≡ at + (stop - from)
  pub few : length new ≤ length old + (most - 1) + length l.texts

-- hits that continue the hits up to a position: both together are the hits of the text
abbrev pub Continues : Literals → List ℕ → ℕ → List (ℕ × ℕ) → Type 0
Continues l text from hits = (prefix : List (ℕ × ℕ)) → IsHits l (take from text) prefix → IsHits l text (prefix ++ hits)
