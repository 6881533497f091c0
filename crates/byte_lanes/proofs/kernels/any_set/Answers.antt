use Rattle.std.proofs.Common.{◌≡◌, ◌≢◌, ◌↔◌, ℕ, ◌+◌, ◌-◌, ◌∙◌, get_or, drop, ap, subst, refl, arith, ⊎_elim}
use Rattle.std.specs.Bool.{IsTrue}
use Rattle.std.specs.List.{Any}
use Rattle.std.proofs.lemmas.Bool.{cases_lt}
use Rattle.byte_lanes.proofs.AnyLemmas.{any_at, some_set, none_set, any_after}
use Rattle.byte_lanes.proofs.kernels.any_set.Goals as goal

pub returns-then-nonzero_wide-ne0 : goal.returns-then-nonzero_wide-ne0
returns-then-nonzero_wide-ne0 c =
    let numbers = c.args.numbers.now in
    let at = c.loop-at.at in
    let number : ℕ → ℕ = λ k. get_or numbers (at + k) 0 in
    let found = some_set _ number _ c.load_wide.ensures c.nonzero_wide.ensures (omega arith) c.nonzero_wide.type_inv in
    (λ _. any_at numbers (at + found.0) (omega (arith, found.1)) found.2, λ _. refl)

pub loop-at-preserved : goal.loop-at-preserved
loop-at-preserved c =
    let numbers = c.args.numbers.now in
    let at = c.loop-at.at in
    let number : ℕ → ℕ = λ k. get_or numbers (at + k) 0 in
    let none = none_set _ number _ c.load_wide.ensures c.nonzero_wide.ensures c.if-nonzero_wide-ne0.false in (
      omega arith,
      λ k l.
          ⊎_elim (λ below. c.loop-at.invariant.1 k below)
          (λ from. let place : k ≡ at + (k - at) = omega arith in ap (λ j. get_or numbers j 0) place ∙ none (k - at) (omega arith))
          (cases_lt k at),
    )

pub returns : goal.returns
returns c =
    let numbers = c.args.numbers.now in
    let after = any_after numbers c.loop-at.at c.loop-at.invariant.0 c.loop-at.invariant.1 in
    let same : IsTrue c.any_set_in.result ↔ Any (λ number. number ≢ 0) (drop c.loop-at.at numbers) =
    subst (λ xs. IsTrue c.any_set_in.result ↔ Any (λ number. number ≢ 0) xs) c.split_at.ensures.back c.any_set_in.ensures in
    (λ h. after.0 (same.0 h), λ h. same.1 (after.1 h))
