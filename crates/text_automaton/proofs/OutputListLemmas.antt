-- The output of a state, literal by literal.
use Rattle.std.proofs.Common.{◌≡◌, ℕ, ◌<◌, ◌≤◌, List, inl, inr, length, slice_index, sym, ◌∙◌, arith}
use Rattle.std.proofs.lemmas.Bool.{cases_lt}
use Rattle.std.proofs.lemmas.Grind.{get_or_default_zero}
use Rattle.std.proofs.lemmas.List.Elements.{Contains-get_or}
use Rattle.std.proofs.lemmas.Map.Keys.{below_from_sorted, sorted_from_strictly_increasing}
use Rattle.std.proofs.lemmas.Map.Views.{length-le_from_below}
use Rattle.std.proofs.lemmas.Option.{slice_get_within}
use Rattle.lit_base.specs.Literals.{Literals}
use Rattle.lit_base.specs.Occurrences.{IsFirstEnding, NoneEnds, Occurs}
use Rattle.text_automaton.specs.Automata.{AreEnding}

-- the literals are in order
pub output_below : (l : Literals) (text : List ℕ) (end : ℕ) (output : List ℕ) (i j : ℕ) → AreEnding l text end output → i < j → j < length output → slice_index output i < slice_index output j
output_below l text end output i j are before within = below_from_sorted output i j 0 (sorted_from_strictly_increasing output are.rising) before within

-- each of them ends there
pub output_ends : (l : Literals) (text : List ℕ) (end : ℕ) (output : List ℕ) (i : ℕ) → AreEnding l text end output → i < length output → Occurs l text (slice_index output i) end
output_ends l text end output i are within = (are.members (slice_index output i)).0 (Contains-get_or output i 0 within)

-- and is one of the list
pub output_within : (l : Literals) (text : List ℕ) (end : ℕ) (output : List ℕ) (i : ℕ) → AreEnding l text end output → i < length output → slice_index output i < length l.texts
output_within l text end output i are within = let o = output_ends l text end output i are within in slice_get_within l.texts (slice_index output i) o.literal o.stands

-- the next literal is the first that ends there, after the others
pub output_next : (l : Literals) (text : List ℕ) (end : ℕ) (output : List ℕ) (i from : ℕ) → AreEnding l text end output → i < length output → ((k : ℕ) → k < i → slice_index output k < from) → from ≤ slice_index output i
    → IsFirstEnding l text from end (slice_index output i)
output_next l text end output i from are within passed further = record {
  counted = further;
  occurs = output_ends l text end output i are within;
  first = λ other low before o.
      let there = (are.members other).1 o in
      let at = there.0 in
      let is : slice_index output at ≡ other = sym (get_or_default_zero output at other there.1) ∙ there.2 in
      elim (cases_lt at i) [
        | inl sooner ↦ let below = passed at sooner in omega (arith, below, is, low)
        | inr later ↦ elim (cases_lt i at) [
          | inl after ↦ let above = output_below l text end output i at are after there.1 in omega (arith, above, is, before)
          | inr not ↦
              let here : at ≡ i = omega (arith, later, not) in
              let same : slice_index output at ≡ slice_index output i = (cc) in
              omega (arith, same, is, before)
        ]
      ];
}

-- after all of them no literal ends there
pub output_none : (l : Literals) (text : List ℕ) (end : ℕ) (output : List ℕ) (from : ℕ) → AreEnding l text end output → ((k : ℕ) → k < length output → slice_index output k < from) → NoneEnds l text from end
output_none l text end output from are passed other low o =
    let there = (are.members other).1 o in
    let is : slice_index output there.0 ≡ other = sym (get_or_default_zero output there.0 other there.1) ∙ there.2 in
    let below = passed there.0 there.1 in
    omega (arith, below, is, low)

-- they are no more than the list has
pub output_few : (l : Literals) (text : List ℕ) (end : ℕ) (output : List ℕ) → AreEnding l text end output → length output ≤ length l.texts
output_few l text end output are =
    length-le_from_below (length l.texts) output (sorted_from_strictly_increasing output are.rising) (λ k d within.
    let same = get_or_default_zero output k d within in
    let small = output_within l text end output k are within in
    omega (arith, same, small))
