-- What the entries of a table that are not zero give a half of a byte.
use Rattle.std.proofs.Common.{◌≡◌, ◌≢◌, ℕ, zero, suc, ◌+◌, ◌<◌, ◌≤◌, List, cond, eqb, length, get_or, set, refl, sym, ap, ◌∙◌, arith, bit_or, add-one, get_or-set_other, get_or-set_same, length-set, ⊎_elim}
use Rattle.std.specs.Int.Bits.{or_zero_l, or_zero_r}
use Rattle.std.proofs.lemmas.Bool.{cases_eq, ne_eqb, eq-eqb}
use Rattle.byte_lanes.specs.Entries.{entries_value}

-- no entries give nothing
pub entries_value-none : (halves values : List ℕ) (half : ℕ) → entries_value halves values 0 half ≡ 0
unfolding entries_value
entries_value-none halves values half = refl

-- the entry after the first n is joined to what they give
pub entries_value-more : (halves values : List ℕ) (n half : ℕ)
    → entries_value halves values (n + 1) half ≡ bit_or (entries_value halves values n half) (cond (eqb half (get_or halves n 0)) (get_or values n 0) 0)
unfolding entries_value
entries_value-more halves values n half = rw add-one

-- later entries do not matter
pub entries_value-set : (halves values : List ℕ) (n x y m half : ℕ) → m ≤ n → entries_value (set halves n x) (set values n y) m half ≡ entries_value halves values m half
unfolding entries_value
entries_value-set halves values n x y zero half le = refl
entries_value-set halves values n x y (suc m) half le =
    let other : m ≢ n = omega arith in
    λ i. bit_or (entries_value-set halves values n x y m half (omega arith) i)
    (cond (eqb half (get_or-set_other halves n m x 0 other i)) (get_or-set_other values n m y 0 other i) 0)

-- one entry more
pub entries_value-push : (halves values : List ℕ) (n x y half : ℕ) → n < length halves → n < length values
    → entries_value (set halves n x) (set values n y) (n + 1) half ≡ bit_or (entries_value halves values n half) (cond (eqb half x) y 0)
entries_value-push halves values n x y half in_halves in_values =
    entries_value-more (set halves n x) (set values n y) n half
    ∙ (λ i. bit_or (entries_value-set halves values n x y n half (omega arith) i)
    (cond (eqb half (get_or-set_same halves n x 0 in_halves i)) (get_or-set_same values n y 0 in_values i) 0))

-- the entries of the first places of a table
pub record AreEntriesBelow (table halves values : List ℕ) (count n : ℕ) : Type 0 where
  pub few : count ≤ n
  pub halves_long : length halves ≡ 16
  pub values_long : length values ≡ 16
  pub below : (half : ℕ) → half < n → entries_value halves values count half ≡ get_or table half 0
  pub above : (half : ℕ) → n ≤ half → entries_value halves values count half ≡ 0

-- before the first
pub entries_below_none : (table halves values : List ℕ) → length halves ≡ 16 → length values ≡ 16 → AreEntriesBelow table halves values 0 0
entries_below_none table halves values p q = record {
  few = omega arith;
  halves_long = p;
  values_long = q;
  below = λ half l. absurd (omega arith);
  above = λ half l. entries_value-none halves values half;
}

-- an entry that is zero is dropped
pub entries_below_skipped : (table halves values : List ℕ) (count n : ℕ) → get_or table n 0 ≡ 0 → AreEntriesBelow table halves values count n
    → AreEntriesBelow table halves values count (n + 1)
entries_below_skipped table halves values count n none h =
    let few = h.few in
    record {
      few = omega arith;
      halves_long = h.halves_long;
      values_long = h.values_long;
      below = λ half l.
          ⊎_elim (λ (same : half ≡ n). h.above half (omega arith) ∙ sym none ∙ ap (λ j. get_or table j 0) (sym same))
          (λ (other : half ≢ n). h.below half (omega arith)) (cases_eq half n);
      above = λ half l. h.above half (omega arith);
    }

-- another is written after the entries so far
pub entries_below_pushed : (table halves values : List ℕ) (count n : ℕ) → n < 16 → AreEntriesBelow table halves values count n
    → AreEntriesBelow table (set halves count n) (set values count (get_or table n 0)) (count + 1) (n + 1)
entries_below_pushed table halves values count n small h =
    let few = h.few in
    let long = h.halves_long in
    let long_values = h.values_long in
    let value = get_or table n 0 in
    let step : (half : ℕ) → entries_value (set halves count n) (set values count value) (count + 1) half ≡ bit_or (entries_value halves values count half) (cond (eqb half n) value 0) =
    λ half. entries_value-push halves values count n value half (omega arith) (omega arith) in
    let other : (half : ℕ) → half ≢ n → entries_value (set halves count n) (set values count value) (count + 1) half ≡ entries_value halves values count half =
    λ half ne. step half ∙ ap (λ b. bit_or (entries_value halves values count half) (cond b value 0)) (ne_eqb half n ne) ∙ or_zero_r (entries_value halves values count half) in
    record {
      few = omega arith;
      halves_long = length-set halves count n ∙ long;
      values_long = length-set values count value ∙ long_values;
      below = λ half l.
          ⊎_elim (λ (same : half ≡ n).
          step half ∙ (λ i. bit_or (h.above half (omega arith) i) (cond (eq-eqb half n same i) value 0)) ∙ or_zero_l value ∙ ap (λ j. get_or table j 0) (sym same))
          (λ (ne : half ≢ n). other half ne ∙ h.below half (omega arith)) (cases_eq half n);
      above = λ half l. let ne : half ≢ n = omega arith in other half ne ∙ h.above half (omega arith);
    }
