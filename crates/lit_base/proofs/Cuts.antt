-- What the ends of a cut say of the places between them.
use Rattle.std.proofs.Common.{◌≡◌, ℕ, zero, suc, ◌-◌, ◌+◌, ◌<◌, ◌≤◌, List, [], ◌∷◌, length, get_or, drop, subst, arith}
use Rattle.std.proofs.lemmas.List.{drop_more}
use Rattle.lit_base.specs.Cuts.{CutsFrom, IsCut, IncreasesTo, cut_price}

-- a cut goes on from no place past the last
pub cuts-le : (n p : ℕ) (ends : List ℕ) → CutsFrom n p ends → p ≤ n
cuts-le n p [] cuts = omega (arith, cuts)
cuts-le n p (end ∷ ends) cuts = omega (arith, cuts.0, cuts-le n end ends cuts.1)

-- what a loop over the ends knows at the end with index i, by the costs c: where the run begins; that the rest cuts the
-- remaining places; and that the price so far and the rest's make up the whole
pub record CutSoFar (c : ℕ → ℕ → ℕ) (n : ℕ) (ends : List ℕ) (i start price : ℕ) : Type 0 where
  pub rest : CutsFrom n start (drop i ends)
  pub whole : price + cut_price c start (drop i ends) ≡ cut_price c 0 ends

-- the next end lies past the run's first place, and not past the last place
pub next_end : (c : ℕ → ℕ → ℕ) (n : ℕ) (ends : List ℕ) (i start price : ℕ) → i < length ends → CutSoFar c n ends i start price → (start < get_or ends i 0) × (get_or ends i 0 ≤ n)
next_end c n ends i start price h so =
    let cuts = subst (λ rest. CutsFrom n start rest) (drop_more ends i 0 h) so.rest in
    (cuts.0, cuts-le n (get_or ends i 0) (drop (i + 1) ends) cuts.1)

-- a cut from p on has an end where some place remains
pub length-cuts : (n p : ℕ) (ends : List ℕ) → CutsFrom n p ends → p < n → 1 ≤ length ends
length-cuts n p [] cuts some = absurd (omega (arith, cuts))
length-cuts n p (end ∷ ends) cuts some = omega arith

-- its first end lies past p
first-cuts : (n p : ℕ) (ends : List ℕ) → CutsFrom n p ends → 1 ≤ length ends → p < get_or ends 0 0
first-cuts n p [] cuts some = absurd (omega (arith, some))
first-cuts n p (end ∷ ends) cuts some = cuts.0

-- its ends strictly increase
increasing-cuts : (n p : ℕ) (ends : List ℕ) → CutsFrom n p ends → (k : ℕ) → suc k < length ends → get_or ends k 0 < get_or ends (suc k) 0
increasing-cuts n p [] cuts k within = absurd (omega (arith, within))
increasing-cuts n p (end ∷ ends) cuts zero within = first-cuts n end ends cuts.1 (omega (arith, within))
increasing-cuts n p (end ∷ ends) cuts (suc k) within = increasing-cuts n end ends cuts.1 k (omega (arith, within))

-- and its last is n
last-cuts : (n p : ℕ) (end : ℕ) (ends : List ℕ) → CutsFrom n p (end ∷ ends) → get_or (end ∷ ends) (length ends) 0 ≡ n
last-cuts n p end [] cuts = cuts.1
last-cuts n p end (next ∷ ends) cuts = last-cuts n end next ends cuts.1

-- ends that strictly increase from past p to n cut the places from p on
cuts-from_increasing : (n p end : ℕ) (ends : List ℕ) → p < end → ((k : ℕ) → suc k < length (end ∷ ends) → get_or (end ∷ ends) k 0 < get_or (end ∷ ends) (suc k) 0) → get_or (end ∷ ends) (length ends) 0 ≡ n → CutsFrom n p (end ∷ ends)
cuts-from_increasing n p end [] past rising last = (past, last)
cuts-from_increasing n p end (next ∷ ends) past rising last =
    (past, cuts-from_increasing n end next ends (rising 0 (omega arith)) (λ k within. rising (suc k) (omega (arith, within))) last)

-- a cut increases to the last place
pub increases-from_cut : (most n : ℕ) (ends : List ℕ) → IsCut most n ends → IncreasesTo most n ends
increases-from_cut most n [] cut = absurd (omega (arith, cut.cuts, cut.some))
increases-from_cut most n (end ∷ ends) cut = record {
  some = omega arith;
  few = cut.few;
  rising = λ k within.
      let next : k + 1 ≡ suc k = omega arith in
      rw next (increasing-cuts n 0 (end ∷ ends) cut.cuts k (omega (arith, within)));
  first = omega (arith, cut.cuts.0);
  last = let index : length (end ∷ ends) - 1 ≡ length ends = omega arith in rw index (last-cuts n 0 end ends cut.cuts);
}

-- and what increases to it is a cut
pub cut-from_increasing : (most n : ℕ) (ends : List ℕ) → IncreasesTo most n ends → IsCut most n ends
cut-from_increasing most n [] increases = absurd (omega (arith, increases.some))
cut-from_increasing most n (end ∷ ends) increases =
    let rising : (k : ℕ) → suc k < length (end ∷ ends) → get_or (end ∷ ends) k 0 < get_or (end ∷ ends) (suc k) 0 =
    λ k within. let next : k + 1 ≡ suc k = omega arith in rw next at (increases.rising k (omega (arith, within))) in
    let index : length (end ∷ ends) - 1 ≡ length ends = omega arith in
    let last = rw index at increases.last in
    let cuts = cuts-from_increasing n 0 end ends increases.first rising last in
    record { some = omega (arith, cuts.0, cuts-le n end ends cuts.1); cuts = cuts; few = increases.few }
