-- Where a search through a text stops, and what a list of hits has gained by then.
use Rattle.std.proofs.Common.{◌≡◌, ℕ, ◌+◌, ◌-◌, ◌<◌, ◌≤◌, List, [], ◌++◌, length, take, drop, Contains, inl, inr, sym, ap, ◌∙◌, subst, arith}
use Rattle.std.proofs.lemmas.Bool.{cases_lt}
use Rattle.std.proofs.Math.Seq.{drop-append-add}
use Rattle.std.proofs.lemmas.List.{append-nil, length-drop, length-take, take-append-drop, take-take, take_all}
use Rattle.std.proofs.lemmas.List.Elements.{Contains-append_right}
use Rattle.lit_base.specs.Literals.{Literals}
use Rattle.lit_base.specs.NextEnds.{IsNextEnd, NoEndAfter}
use Rattle.text_ends.specs.HitsAt.{GainsHitsAt}
use Rattle.text_ends.specs.HitsAfter.{AreHitsAfter, GainsHitsAfter, StopsAt}
use Rattle.text_ends.proofs.HitLists.{gained_both, gained_more, hits_further, hits_joined, hits_none, none_past}

-- a search that gained fewer hits than it asked for reached the text's end
pub to_end : (l : Literals) (text : List ℕ) (from at most stop : ℕ) (old new : List (ℕ × ℕ)) → StopsAt l text from at most stop old new → length new ≤ length old + (most - 1) → stop ≡ length text
to_end l text from at most stop old new search few = elim (cases_lt stop (length text)) [
  | inl sooner ↦ absurd (omega (arith, search.enough sooner, few))
  | inr there ↦ omega (arith, there, search.within)
]

-- where a search wants more hits than a list can hold, it covers the whole text
pub all_searched : (l : Literals) (text : List ℕ) (from at most stop : ℕ) (old new : List (ℕ × ℕ)) → length new < most → StopsAt l text from at most stop old new → GainsHitsAfter l text from at old new
all_searched l text from at most stop old new small search =
    let there : stop ≡ length text = to_end l text from at most stop old new search (omega (arith, small)) in
    subst (λ t. GainsHitsAfter l t from at old new) (take_all stop text (omega (arith, there))) search.gained

-- a list that gained the hits up to a position of a text, and then those of a search of a span after it, gained the
-- hits up to where this search stopped
pub span_gained : (l : Literals) (text : List ℕ) (from m span most stop : ℕ) (old middle new : List (ℕ × ℕ)) → from ≤ m → span ≤ length text
    → GainsHitsAfter l (take m text) from from old middle → StopsAt l (take span text) m m most stop middle new → GainsHitsAfter l (take stop text) from from old new
span_gained l text from m span most stop old middle new starts within early late =
    let more = late.gained in
    let inside : stop ≤ span = omega (arith, late.within, length-take span text) in
    let position : m ≡ from + (m - from) = omega (arith, starts) in
    record {
      found = early.found ++ more.found;
      grown = gained_both old middle new early.found more.found early.grown more.grown;
      added = hits_joined l (take stop text) from m from early.found more.found starts (omega (arith, late.after, inside, within, length-take stop text))
          (subst (λ t. AreHitsAfter l t from from early.found) (sym (take-take m stop text late.after)) early.added)
          (subst (λ x. AreHitsAfter l (take stop text) m x more.found) position (subst (λ t. AreHitsAfter l t m m more.found) (take-take stop span text inside) more.added));
    }

-- from the end of a list on there are no hits
pub none_late : (n : ℕ) (new : List (ℕ × ℕ)) (hit : ℕ × ℕ) → length new ≤ n → ¬ Contains (drop n new) hit
none_late n new hit short inside = omega (arith, inside.1, length-drop n new, short)

-- the later hits of a list that gained some are among those gained
pub gained_late : (n : ℕ) (old new found : List (ℕ × ℕ)) (hit : ℕ × ℕ) → length old ≤ n → new ≡ old ++ found → Contains (drop n new) hit → Contains found hit
gained_late n old new found hit short grown inside =
    let k = n - length old in
    let at : n ≡ length old + k = omega (arith, short) in
    let later : drop n new ≡ drop k found = ap (drop n) grown ∙ ap (λ m. drop m (old ++ found)) at ∙ drop-append-add old found k in
    let there : Contains (drop k found) hit = subst (λ (xs : List (ℕ × ℕ)). Contains xs hit) later inside in
    subst (λ (xs : List (ℕ × ℕ)). Contains xs hit) (take-append-drop k found) (Contains-append_right (take k found) (drop k found) hit there)

-- the number of the first hit that is wanted of a later search is that of the whole search
pub same_number : (most : ℕ) (old middle : List (ℕ × ℕ)) → length old ≤ length middle → length middle ≤ length old + (most - 1) → length middle + (most - (length middle - length old) - 1) ≡ length old + (most - 1)
same_number most old middle more room = omega (arith, more, room)

-- and it stops at the end of the text or after enough hits
pub stopped_further : (l : Literals) (text : List ℕ) (from m span most stop : ℕ) (old middle new : List (ℕ × ℕ)) → from ≤ m → span ≤ length text → length middle ≤ length old + (most - 1)
    → GainsHitsAfter l (take m text) from from old middle → StopsAt l (take span text) m m (most - (length middle - length old)) stop middle new
    → (stop < length text → length old + (most - 1) < length new) → StopsAt l text from from most stop old new
stopped_further l text from m span most stop old middle new starts within room early late enough =
    let more = gained_more old middle early.found early.grown in
    record {
      after = omega (arith, starts, late.after);
      within = omega (arith, late.within, length-take span text, within);
      gained = span_gained l text from m span (most - (length middle - length old)) stop old middle new starts within early late;
      enough = enough;
      least = λ hit inside.
          let there = subst (λ n. Contains (drop n new) hit) (sym (same_number most old middle more room)) inside in
          omega (arith, late.least hit there, starts, late.after);
      few = omega (arith, late.few, room, more);
    }

-- a search of a span that gained too few hits reached its end
pub span_end : (l : Literals) (text : List ℕ) (m span most stop : ℕ) (old middle new : List (ℕ × ℕ)) → span ≤ length text → length old ≤ length middle → length middle ≤ length old + (most - 1)
    → StopsAt l (take span text) m m (most - (length middle - length old)) stop middle new → length new ≤ length old + (most - 1) → stop ≡ span
span_end l text m span most stop old middle new within more room late few =
    to_end l (take span text) m m (most - (length middle - length old)) stop middle new late (omega (arith, few, more, room)) ∙ length-take span text ∙ omega (arith, within)

-- nothing is gained where a search begins
pub gained_nothing : (l : Literals) (text : List ℕ) (from at : ℕ) (old : List (ℕ × ℕ)) → GainsHitsAfter l (take from text) from at old old
gained_nothing l text from at old = record {
  found = [];
  grown = sym (append-nil old);
  added = hits_none l (take from text) from at (none_past l (take from text) from (omega (arith, length-take from text)));
}

-- the hits up to a position and those at the next one are the hits up to there
pub gained_here : (l : Literals) (text : List ℕ) (from m end at : ℕ) (old middle new : List (ℕ × ℕ)) → from ≤ m → IsNextEnd l text m end
    → GainsHitsAfter l (take m text) from at old middle → GainsHitsAt l text end (at + (end - from)) middle new → GainsHitsAfter l (take end text) from at old new
gained_here l text from m end at old middle new starts next early late = record {
  found = early.found ++ late.found;
  grown = gained_both old middle new early.found late.found early.grown late.grown;
  added = hits_further l text from m end at early.found late.found starts next.after next.within next.first early.added late.added;
}

-- the hits up to a position after which nothing ends are all hits
pub gained_ended : (l : Literals) (text : List ℕ) (from m at : ℕ) (old new : List (ℕ × ℕ)) → from ≤ m → m ≤ length text → NoEndAfter l text m
    → GainsHitsAfter l (take m text) from at old new → GainsHitsAfter l text from at old new
gained_ended l text from m at old new starts within none early = record {
  found = early.found;
  grown = early.grown;
  added = subst (AreHitsAfter l text from at) (append-nil early.found)
      (hits_joined l text from m at early.found [] starts within early.added (hits_none l text m (at + (m - from)) none));
}

-- from no hits on, they are all that a list gained
pub gained_all : (l : Literals) (text : List ℕ) (from at : ℕ) (old new : List (ℕ × ℕ)) → old ≡ [] → GainsHitsAfter l text from at old new → AreHitsAfter l text from at new
gained_all l text from at old new none gains =
    let same : gains.found ≡ new = sym (gains.grown ∙ ap (λ hs. hs ++ gains.found) none) in
    subst (AreHitsAfter l text from at) same gains.added
