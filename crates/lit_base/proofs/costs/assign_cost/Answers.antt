-- After the last bucket the price so far is the whole.
use Rattle.std.proofs.Common.{◌+◌, ℕ, subst, sym, arith}
use Rattle.lit_base.specs.Literals.{lengths}
use Rattle.lit_base.specs.Costs.{group_cost}
use Rattle.lit_base.specs.Assignments.{bucket, assign_price}
use Rattle.lit_base.specs.Profiles.{buckets}
use Rattle.lit_base.proofs.BucketLemmas.{PriceSoFar, price_all, price_more}
use Rattle.lit_base.proofs.costs.assign_cost.Goals as goal

pub returns : goal.returns
unfolding assign_price
returns c =
    price_all (λ b. group_cost (bucket b (lengths c.args.list.now) c.args.numbers.now)) (buckets c.args.profile) c.loop-number.number c.loop-number.price (omega arith) c.loop-number.invariant.0

pub loop-number-preserved : goal.loop-number-preserved
loop-number-preserved c =
    let f : ℕ → ℕ = λ b. group_cost (bucket b (lengths c.args.list.now) c.args.numbers.now) in
    let most = buckets c.args.profile in
    let i = c.loop-number.number in
    let price = c.loop-number.price in (
      subst (λ x. PriceSoFar f most (i + 1) (price + x)) (sym c.bucket_cost-price.ensures.value)
          (price_more f most i price (omega (arith, c.loop-number-test.true, c.buckets-number-end.ensures.value)) c.loop-number.invariant.0),
      omega (arith, c.loop-number.invariant.1, c.bucket_cost-price.ensures.bound),
    )
