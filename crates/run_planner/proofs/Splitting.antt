-- Best ends of runs: they never move back, as the prices meet the quadrangle inequality.
use Rattle.std.proofs.Common.{◌≡◌, inl, inr, ℕ, zero, suc, ◌+◌, ◌/◌, max, ◌-◌, ◌*◌, ◌^◌, ◌<◌, ◌≤◌, arith}
use Rattle.std.proofs.lemmas.Bool.{cases_lt}
use Rattle.std.proofs.Math.Nat.{pow-suc}
use Rattle.lit_base.specs.Costs.{MeetQuadrangle}
use Rattle.run_planner.specs.Splits.{IsBestEnd, Suffice, SufficeAt}

-- the places before one whose best end is known need no later end
pub suffice-before : (c : ℕ → ℕ → ℕ) (rest : ℕ → ℕ) (n low middle high first last end : ℕ) → MeetQuadrangle c n → last ≤ n → middle < high → first ≤ end → IsBestEnd c rest n middle end → Suffice c rest n low high first last → Suffice c rest n low middle first end
suffice-before c rest n low middle high first last end quad within inner from best all p above below q past le =
    let old = all p above (omega (arith, below, inner)) q past le in
    elim (cases_lt end old.0) [
      | inl later ↦
          let four = quad p middle end old.0 (omega (arith, below)) best.past (omega (arith, later)) (omega (arith, old.2, within)) in
          let least = best.least old.0 (omega (arith, best.past, later)) (omega (arith, old.2, within)) in
          (end, from, omega arith, omega (arith, below, best.past), omega (arith, four, least, old.4))
      | inr earlier ↦ (old.0, old.1, omega (arith, earlier), old.3, old.4)
    ]

-- and the places after it no earlier one
pub suffice-after : (c : ℕ → ℕ → ℕ) (rest : ℕ → ℕ) (n low middle high first last end : ℕ) → MeetQuadrangle c n → low ≤ middle → end ≤ last → IsBestEnd c rest n middle end → Suffice c rest n low high first last → Suffice c rest n (middle + 1) high end last
suffice-after c rest n low middle high first last end quad from to best all p above below q past le =
    let old = all p (omega (arith, above, from)) below q past le in
    elim (cases_lt old.0 end) [
      | inl earlier ↦
          let four = quad middle p old.0 end (omega (arith, above)) old.3 (omega (arith, earlier)) best.within in
          let least = best.least old.0 (omega (arith, above, old.3)) (omega (arith, earlier, best.within)) in
          (end, omega arith, to, omega (arith, old.3, earlier), omega (arith, four, least, old.4))
      | inr later ↦ (old.0, omega (arith, later), old.2, old.3, old.4)
    ]

-- the best of the ends that suffice is the best of all
pub best-from_scan : (c : ℕ → ℕ → ℕ) (rest : ℕ → ℕ) (n p first last from stop end price : ℕ) → from ≡ max first (p + 1) → last < stop → stop ≤ n + 1 → SufficeAt c rest n first last p → from ≤ end → end < stop → price ≡ c p end + rest end → ((q : ℕ) → from ≤ q → q < stop → price ≤ c p q + rest q) → IsBestEnd c rest n p end
best-from_scan c rest n p first last from stop end price is to inner suffice low high value least = record {
  past = omega (arith, is, low);
  within = omega (arith, high, inner);
  least = λ q past le.
      let other = suffice q past le in
      omega (arith, other.4, value, least other.0 (omega (arith, is, other.1, other.3)) (omega (arith, other.2, to)));
}

-- the prices that the middle place and both sides ask for: both sides have less than half as many places
pub count-split : (low middle high first end last d a b e f : ℕ) → low < high → middle ≡ low + (high - low) / 2 → first ≤ end → end ≤ last → high - low < 2 ^ d → b ≤ a + (last - first) + 1 → ((k : ℕ) → middle - low < 2 ^ k → e ≤ b + k * (end - first) + (middle - low)) → ((k : ℕ) → high - (middle + 1) < 2 ^ k → f ≤ e + k * (last - end) + (high - (middle + 1))) → f ≤ a + d * (last - first) + (high - low)
count-split low middle high first end last zero a b e f some is from to digits here before after = absurd (omega (arith, digits, some))
count-split low middle high first end last (suc k) a b e f some is from to digits here before after =
    let half = rw (pow-suc 2 k) at digits in
    let left = before k (omega (arith, half, is, some)) in
    let right = after k (omega (arith, half, is, some)) in
    let whole : last - first ≡ (end - first) + (last - end) = omega (arith, from, to) in
    rw whole (omega (arith, left, right, rw whole at here, is, some))
