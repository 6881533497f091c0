-- Cheapest runs of a row's places, and how one of them divides the row.
use Rattle.std.proofs.Common.{◌≡◌, ℕ, ◌+◌, ◌-◌, ◌*◌, ◌^◌, ◌<◌, ◌≤◌, max, inl, inr, List, length, get_or, subst, arith}
use Rattle.std.specs.Prelude.{All}
use Rattle.std.specs.List.{slice_range}
use Rattle.std.proofs.lemmas.Bool.{cases_lt}
use Rattle.std.proofs.lemmas.List.Elements.{All-from_get_or}
use Rattle.lit_base.specs.Costs.{MeetQuadrangle}
use Rattle.lit_base.specs.Literals.{Literals, lengths}
use Rattle.lit_base.specs.Potentials.{potential}
use Rattle.lit_base.proofs.Runs.{run_cost-lt}
use Rattle.lit_cert.specs.Certified.{cost_of, EndRowsHold, StepsHold}
use Rattle.lit_cert.specs.Steps.{AllFit, IsLeastRun, RunsSuffice, price_of}
use Rattle.lit_cert.proofs.Potentials.{row_at, row_within}

-- of one run, this is the cheapest
pub least_first : (l : Literals) (before : List ℕ) (p first price : ℕ) → price ≡ price_of l before p first → IsLeastRun l before p first (first + 1) first price
least_first l before p first price is = record {
  low = omega arith;
  high = omega arith;
  price_is = is;
  least = λ k low high. let only : first ≡ k = omega arith in subst (λ x. price ≤ price_of l before p x) only (omega (arith, is));
}

-- one run more, which is cheaper
pub least_takes : (l : Literals) (before : List ℕ) (p first k q least price : ℕ) → IsLeastRun l before p first k q least → first ≤ k → price ≡ price_of l before p k → price < least → IsLeastRun l before p first (k + 1) k price
least_takes l before p first k q least price so low is cheaper = record {
  low = low;
  high = omega arith;
  price_is = is;
  least = λ j from to. elim (cases_lt j k) [
    | inl earlier ↦ omega (arith, so.least j from earlier, cheaper)
    | inr last ↦ let at : k ≡ j = omega arith in subst (λ x. price ≤ price_of l before p x) at (omega (arith, is))
  ];
}

-- one run more, which is not
pub least_keeps : (l : Literals) (before : List ℕ) (p first k q least price : ℕ) → IsLeastRun l before p first k q least → price ≡ price_of l before p k → least ≤ price → IsLeastRun l before p first (k + 1) q least
least_keeps l before p first k q least price so is dearer = record {
  low = so.low;
  high = omega (arith, so.high);
  price_is = so.price_is;
  least = λ j from to. elim (cases_lt j k) [
    | inl earlier ↦ so.least j from earlier
    | inr last ↦ let at : k ≡ j = omega arith in subst (λ x. least ≤ price_of l before p x) at (omega (arith, is, dearer))
  ];
}

-- for literals, a row of potentials and the one before it, with a cheapest run from place m to q
module _ (l : Literals) (here before : List ℕ) (low high first end m q price : ℕ) (quadrangle : MeetQuadrangle (cost_of l) (length l.texts)) (suffice : RunsSuffice l here before low high first end) (within : end ≤ length l.texts) (from : low ≤ m) (to : m < high) (least : IsLeastRun l before m (max first (m + 1)) end q price) where
  -- no place before m needs an end after q
  pub suffice_before : RunsSuffice l here before low m first (q + 1)
  suffice_before p above below fits =
      suffice p above (omega arith) (λ k past start stop. elim (cases_lt k (q + 1)) [
        | inl early ↦ fits k past start early
        | inr late ↦
            let four = quadrangle p m q k (omega arith) (omega (arith, least.low)) (omega arith) (omega (arith, within)) in
            let bound = fits q (omega (arith, least.low)) (omega (arith, least.low)) (omega arith) in
            omega (arith, four, bound, least.price_is, least.least k (omega (arith, least.low)) stop)
      ])

  -- and none after m an end before q
  pub suffice_after : RunsSuffice l here before (m + 1) high q end
  suffice_after p above below fits =
      suffice p (omega arith) below (λ k past start stop. elim (cases_lt k q) [
        | inl early ↦
            let four = quadrangle m p k q (omega arith) past (omega arith) (omega (arith, least.high, within)) in
            let bound = fits q (omega arith) (omega arith) least.high in
            omega (arith, four, bound, least.price_is, least.least k (omega arith) stop)
        | inr late ↦ fits k past late stop
      ])

-- where its end rows hold, a row's potentials are small
pub row_small : (l : Literals) (hs : List ℕ) (r s : ℕ) → 1 ≤ r → r < s → length l.texts ≤ 4096 → EndRowsHold l hs s → All (λ h. h < 2 ^ 40) (slice_range hs ((r - 1) * length l.texts) (r * length l.texts))
row_small l hs r s from_one below few ends =
    let n = length l.texts in
    let row = slice_range hs ((r - 1) * n) (r * n) in
    All-from_get_or (λ h. h < 2 ^ 40) row 0 (λ q inside.
    let inner = row_within hs n r q from_one inside in
    omega (arith, row_at hs n r q from_one inner, ends r from_one below q inner, run_cost-lt (lengths l) q n few))

-- the places of a row but the last, by the two rows as they are read
abbrev pub RowFits : Literals → List ℕ → ℕ → ℕ → Type 0
RowFits l hs r n = AllFit l (slice_range hs ((r - 1) * n) (r * n)) (slice_range hs ((r - 2) * n) ((r - 1) * n)) 0 (n - 1)

-- the number read after a step
after_at : (hs : List ℕ) (n r k : ℕ) → 2 ≤ r → k < n → get_or (slice_range hs ((r - 2) * n) ((r - 1) * n)) k 0 ≡ potential hs n (r - 1) k
after_at hs n r k from_two inner =
    let two : r - 2 ≡ (r - 1) - 1 = omega arith in
    rw two (row_at hs n (r - 1) k (omega (arith, from_two)) inner)

-- where they all fit, the steps of the row hold
pub steps-from_fit : (l : Literals) (hs : List ℕ) (r : ℕ) → 2 ≤ r → RowFits l hs r (length l.texts) → StepsHold l hs r (length l.texts)
steps-from_fit l hs r from_two fit o inner k past below =
    let n = length l.texts in
    omega (arith, fit o (omega arith) (omega (arith, past, below)) k past (omega arith) below, row_at hs n r o (omega (arith, from_two)) inner, after_at hs n r k from_two below)

-- and where the steps hold, they all fit
pub fit-from_steps : (l : Literals) (hs : List ℕ) (r : ℕ) → 2 ≤ r → StepsHold l hs r (length l.texts) → RowFits l hs r (length l.texts)
fit-from_steps l hs r from_two hold p low high k past start below =
    let n = length l.texts in
    let inner : p < n = omega (arith, past, below) in
    omega (arith, hold p inner k past below, row_at hs n r p (omega (arith, from_two)) inner, after_at hs n r k from_two below)
