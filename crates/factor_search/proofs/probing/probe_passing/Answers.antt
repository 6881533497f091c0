-- The positions that pass are probed one after the other, the lowest first.
use Rattle.std.proofs.Common.{ℕ, ◌-◌, ◌+◌, inl, inr, subst, arith}
use Rattle.std.proofs.lemmas.Bool.{cases_lt}
use Rattle.std.proofs.lemmas.Nat.Bits.{bit_at-lt, bit_at_above, bit_at_and, bit_at_ones}
use Rattle.factor_search.specs.Factors.{offset_at}
use Rattle.factor_search.proofs.PendingSteps.{AreLeft, left_further, masked_pending}
use Rattle.factor_search.proofs.HashBitSteps.{marked_below}
use Rattle.factor_search.proofs.probing.probe_passing.Goals as goal

pub places-init : goal.places-init
places-init c = record {
  left = λ place end occurs after inside.
      let at : ℕ = end - offset_at c.args.factors.now place - (c.args.seen + 1) in
      let one = bit_at_ones 56 at (omega (arith, after, inside)) in
      inr (omega (arith, bit_at_and c.args.passing 72057594037927935 at, one, c.requires.all place end occurs after inside));
  kept = λ back near set. set;
  low = λ back set.
      let both = bit_at_and c.args.passing 72057594037927935 back in
      elim (cases_lt back 56) [
        | inl near ↦ (near, c.requires.inside back near (omega (arith, set, both, bit_at_ones 56 back near, bit_at-lt c.args.passing back)))
        | inr far ↦ absurd (omega (arith, set, both, bit_at_above 72057594037927935 56 back (omega arith) far))
      ];
}

pub hash_bits_at-probed-requires : goal.hash_bits_at-probed-requires
hash_bits_at-probed-requires c =
    let there = c.places.invariant.low c.split_lowest-back.result.0 c.split_lowest-back.ensures.set in
    omega (arith, there)

pub places-preserved : goal.places-preserved
places-preserved c =
    let before = c.places.invariant in
    let back : ℕ = c.split_lowest-back.result.0 in
    record {
      left = left_further c.args.factors.now c.args.text.now c.args.seen c.within_law.ensures c.places.found c.places.rest back c.split_lowest-back.result.1 c.hash_bits_at-probed.result
          c.split_lowest-back.ensures c.hash_bits_at-probed.ensures before.left;
      kept = λ other near set. marked_below c.places.found c.hash_bits_at-probed.result back other near (before.kept other near set);
      low = λ other set. before.low other ((c.split_lowest-back.ensures.others other).0 set).1;
    }

pub returns : goal.returns
returns c = λ from.
    let before = c.places.invariant in
    masked_pending c.args.factors.now c.args.text.now c.args.seen c.within_law.ensures from c.args.hash_bits c.places.found
    (subst (AreLeft c.args.factors.now c.args.text.now c.args.seen c.places.found) c.places-test.false before.left) before.kept
