-- Where a search through a piece stops, seen from its first bytes and from the rest of it.
use Rattle.std.proofs.Common.{◌≡◌, ℕ, ◌+◌, ◌-◌, ◌<◌, ◌≤◌, List, ◌++◌, length, take, drop, Contains, inl, inr, sym, subst, arith}
use Rattle.std.proofs.lemmas.Bool.{cases_lt}
use Rattle.std.proofs.lemmas.List.{length-append, length-take, take-take, take_all}
use Rattle.lit_base.specs.Literals.{Literals}
use Rattle.lit_plan.specs.Bounds.{HasBounds, carry_of}
use Rattle.text_ends.specs.HitsAfter.{AreHitsAfter, GainsHitsAfter, StopsAt}
use Rattle.flow_scan.specs.Tails.{AreAdded, StopsIn}
use Rattle.text_ends.proofs.HitLists.{gained_both, gained_more}
use Rattle.text_ends.proofs.Stops.{same_number, to_end}
use Rattle.flow_scan.proofs.BoundaryLemmas.{prefix_after}
use Rattle.flow_scan.proofs.TailSteps.{added_in_place}

-- a search that stopped in the first bytes of a piece, after a tail
pub stopped_in_prefix : (l : Literals) (tail piece : List ℕ) (carry at most stop : ℕ) (old new : List (ℕ × ℕ)) → StopsAt l (tail ++ take carry piece) (length tail) at most stop old new
    → (stop - length tail < length piece → length old + (most - 1) < length new) → StopsIn l tail piece at most (stop - length tail) old new
stopped_in_prefix l tail piece carry at most stop old new search enough = record {
  within = omega (arith, search.after, search.within, length-append tail (take carry piece), length-take carry piece);
  gained = subst (λ t. GainsHitsAfter l t (length tail) at old new) (prefix_after tail piece carry stop search.after search.within) search.gained;
  enough = enough;
  least = search.least;
  few = search.few;
}

-- a search that reached the end of the first bytes, and stopped in the piece in place
pub stopped_in_place : (l : Literals) (tail piece : List ℕ) (at most stop count : ℕ) (old middle new : List (ℕ × ℕ)) → HasBounds l
    → StopsAt l (tail ++ take (carry_of l) piece) (length tail) at most stop old middle → length middle ≤ length old + (most - 1)
    → StopsAt l piece (carry_of l) (at + carry_of l) (most - (length middle - length old)) count middle new → StopsIn l tail piece at most count old new
stopped_in_place l tail piece at most stop count old middle new bounds first few second =
    let carry = carry_of l in
    let text = tail ++ take carry piece in
    let more = gained_more old middle first.gained.found first.gained.grown in
    let there : stop ≡ length text = to_end l text (length tail) at most stop old middle first (omega (arith, few, more)) in
    let prefix : take carry piece ≡ take carry (take count piece) = sym (take-take carry count piece second.after) in
    let early : AreAdded l tail (take carry (take count piece)) at first.gained.found =
    subst (λ p. AreAdded l tail p at first.gained.found) prefix
    (subst (λ t. AreHitsAfter l t (length tail) at first.gained.found) (take_all stop text (omega (arith, there))) first.gained.added) in
    let long : carry ≤ length (take count piece) = omega (arith, second.after, second.within, length-take count piece) in
    record {
      within = second.within;
      gained = record {
        found = first.gained.found ++ second.gained.found;
        grown = gained_both old middle new first.gained.found second.gained.found first.gained.grown second.gained.grown;
        added = added_in_place l tail (take count piece) at first.gained.found second.gained.found bounds long early second.gained.added;
      };
      enough = λ sooner. omega (arith, second.enough sooner, few, more);
      least = λ hit inside.
          let later = subst (λ n. Contains (drop n new) hit) (sym (same_number most old middle more (omega (arith, few)))) inside in
          omega (arith, second.least hit later, second.after);
      few = omega (arith, second.few, few, more);
    }

-- where a search wants more hits than a list can hold, the whole piece is fed
pub all_fed : (l : Literals) (tail piece : List ℕ) (at most count : ℕ) (old new : List (ℕ × ℕ)) → length new < most → StopsIn l tail piece at most count old new → take count piece ≡ piece
all_fed l tail piece at most count old new small search = elim (cases_lt count (length piece)) [
  | inl sooner ↦ absurd (omega (arith, search.enough sooner, small))
  | inr there ↦ take_all count piece there
]
