-- There is one plan: one first cut, and one row of tail costs for each number of runs.
use Rattle.std.proofs.Common.{◌≡◌, ℕ, ◌+◌, ◌-◌, ◌*◌, ◌/◌, ◌%◌, ◌<◌, List, [], ◌∷◌, length, get_or, inl, inr, refl, sym, ap, ◌∙◌, arith}
use Rattle.std.proofs.lemmas.Grind.{same_number_lists}
use Rattle.std.proofs.lemmas.Bool.{cases_lt}
use Rattle.std.proofs.lemmas.Nat.{mul-le}
use Rattle.lit_base.specs.Cuts.{cut_price}
use Rattle.lit_base.specs.Potentials.{potential}
use Rattle.lit_base.proofs.Least.{potential-inner}
use Rattle.lit_base.specs.Profiles.{buckets}
use Rattle.lit_base.specs.declared.profile.Profile.{Profile}
use Rattle.lit_cert.specs.Certificates.{CertificateParts}
use Rattle.run_planner.specs.FirstCut.{ComeNoLater, IsFirstCut, IsNoLaterCut}
use Rattle.run_planner.specs.TailCosts.{AreTailCosts, IsTailCost}
use Rattle.run_planner.specs.Plans.{IsOnlyPlan, IsPlan}

-- ends that come no later than one another are the same
come_no_later-both : (ends others : List ℕ) → length ends ≡ length others → ComeNoLater ends others → ComeNoLater others ends → ends ≡ others
come_no_later-both [] [] size there back = refl
come_no_later-both [] (other ∷ others) size there back = absurd (omega (arith, size))
come_no_later-both (end ∷ ends) [] size there back = absurd there
come_no_later-both (end ∷ ends) (other ∷ others) size there back =
    elim there [
      | inl less ↦ elim back [
        | inl more ↦ absurd (omega (arith, less, more))
        | inr same ↦ absurd (omega (arith, less, same.0))
      ]
      | inr here ↦ elim back [
        | inl more ↦ absurd (omega (arith, more, here.0))
        | inr same ↦ let rest = come_no_later-both ends others (omega (arith, size)) here.1 same.1 in λ i. here.0 i ∷ rest i
      ]
    ]

-- cuts, each no later than the other, are the same
no_later-both : (c : ℕ → ℕ → ℕ) (ends others : List ℕ) → IsNoLaterCut c ends others → IsNoLaterCut c others ends → ends ≡ others
no_later-both c ends others there back =
    elim there [
      | inl less ↦ elim back [
        | inl more ↦ absurd (omega (arith, less, more))
        | inr same ↦ absurd (omega (arith, less, same.0))
      ]
      | inr here ↦ elim back [
        | inl more ↦ absurd (omega (arith, more, here.0))
        | inr same ↦ elim here.1 [
          | inl fewer ↦ elim same.1 [
            | inl more ↦ absurd (omega (arith, fewer, more))
            | inr as_many ↦ absurd (omega (arith, fewer, as_many.0))
          ]
          | inr as_few ↦ elim same.1 [
            | inl more ↦ absurd (omega (arith, more, as_few.0))
            | inr as_many ↦ come_no_later-both ends others as_few.0 as_few.1 as_many.1
          ]
        ]
      ]
    ]

-- the first cut is one
first_cut-one : (c : ℕ → ℕ → ℕ) (most n : ℕ) (ends others : List ℕ) → IsFirstCut c most n ends → IsFirstCut c most n others → ends ≡ others
first_cut-one c most n ends others first other = no_later-both c ends others (first.first others other.cut) (other.first ends first.cut)

-- a tail cost is one
tail_cost-one : (c : ℕ → ℕ → ℕ) (n r p v w : ℕ) → IsTailCost c n r p v → IsTailCost c n r p w → v ≡ w
tail_cost-one c n r p v w of_v of_w =
    let by_v = of_v.reached in
    let by_w = of_w.reached in
    let up = of_w.least by_v.0 by_v.1 by_v.2 in
    let down = of_v.least by_w.0 by_w.1 by_w.2 in
    omega (arith, up, down, by_v.3, by_w.3)

-- a place of the list of all potentials is one of a row
in_a_row : (most n k : ℕ) → 0 < n → k < most * n → (k / n < most) × (k % n < n) × (k ≡ k / n * n + k % n)
in_a_row most n k some within =
    let split : n * (k / n) + k % n ≡ k = omega (arith, some) in
    let short : k % n < n = omega (arith, some) in
    let turned : n * (k / n) ≡ k / n * n = omega arith in
    elim (cases_lt (k / n) most) [
      | inl low ↦ (low, short, omega (arith, split, turned))
      | inr high ↦ absurd (omega (arith, within, split, turned, mul-le most n (k / n) n high (omega arith)))
    ]

-- tail costs are one list
tail_costs-one : (c : ℕ → ℕ → ℕ) (n most : ℕ) (hs others : List ℕ) → 0 < n → length hs ≡ most * n → length others ≡ most * n → AreTailCosts c n most hs → AreTailCosts c n most others → hs ≡ others
tail_costs-one c n most hs others some size other_size tails other =
    same_number_lists hs others (size ∙ sym other_size) (λ k within.
    let row = in_a_row most n k some (omega (arith, within, size)) in
    let r = k / n + 1 in
    let p = k % n in
    let before : r - 1 ≡ k / n = omega arith in
    let place : k ≡ (r - 1) * n + p = row.2 ∙ ap (λ q. q * n + p) (sym before) in
    let one = tail_cost-one c n r p (potential hs n r p) (potential others n r p) (tails r p (omega arith) (omega (arith, row.0)) row.1) (other r p (omega arith) (omega (arith, row.0)) row.1) in
    ap (λ i. get_or hs i 0) place ∙ (sym (potential-inner hs n r p row.1) ∙ (one ∙ (potential-inner others n r p row.1 ∙ ap (λ i. get_or others i 0) (sym place)))))

-- so a plan is the only one
pub plan-one : (c : ℕ → ℕ → ℕ) (profile : Profile) (n : ℕ) (plan : CertificateParts) → IsPlan c profile n plan → IsOnlyPlan c profile n plan
plan-one c profile n plan is other also =
    let most = buckets profile in
    let same : other.profile ≡ plan.profile = also.for_profile ∙ sym is.for_profile in
    let ends = first_cut-one c most n other.ends plan.ends also.first is.first in
    let potentials = tail_costs-one c n most other.potentials plan.potentials is.first.cut.some also.len is.len also.potentials is.potentials in
    let cost : other.cost ≡ plan.cost = also.cost ∙ (ap (cut_price c 0) ends ∙ sym is.cost) in
    λ i. record { profile = same i; ends = ends i; cost = cost i; potentials = potentials i }
