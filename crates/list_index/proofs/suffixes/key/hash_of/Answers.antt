-- The high bits of a product are as many as were asked for.
use Rattle.std.proofs.Common.{◌≡◌, ◌+◌, ◌-◌, ◌*◌, ◌%◌, ◌^◌, ◌<◌, refl, subst, arith, shr_lt}
use Rattle.list_index.specs.Suffixes.{hash_of}
use Rattle.list_index.proofs.suffixes.key.hash_of.Goals as goal

pub returns-clause-value : goal.returns-clause-value
unfolding hash_of
returns-clause-value c = refl

pub returns-clause-below : goal.returns-clause-below
returns-clause-below c =
    let bits = c.args.bits in
    let whole : 64 ≡ bits + (64 - bits) = omega arith in
    let product : c.args.key * 11400714819323198485 % 2 ^ 64 < 2 ^ 64 = omega arith in
    shr_lt bits (64 - bits) (subst (λ k. c.args.key * 11400714819323198485 % 2 ^ 64 < 2 ^ k) whole product)
