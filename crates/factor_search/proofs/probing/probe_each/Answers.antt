-- Each position of a block that lies in the text has a bit.
use Rattle.std.proofs.Common.{◌≡◌, ℕ, ◌+◌, ◌-◌, ◌/◌, ◌%◌, ◌^◌, inl, inr, ap, shr-shr, arith}
use Rattle.std.specs.Int.{bit_at}
use Rattle.std.proofs.lemmas.Bool.{cases_lt}
use Rattle.std.proofs.lemmas.Nat.Bits.{bit_at_above, bit_at_ones}
use Rattle.factor_search.specs.Factors.{offset_at}
use Rattle.factor_search.proofs.probing.probe_each.Goals as goal

pub probe_passing-requires : goal.probe_passing-requires
probe_passing-requires c =
    let over : ℕ = 56 - c.min-count.result in
    let bit : (k : ℕ) → bit_at (72057594037927935 / 2 ^ over) k ≡ bit_at 72057594037927935 (over + k) = λ k. ap (λ x. x % 2) (shr-shr 72057594037927935 over k) in
    record {
      inside = λ k few set. elim (cases_lt (over + k) 56) [
        | inl near ↦ omega (arith, near, c.min-count.ensures)
        | inr far ↦ absurd (omega (arith, set, bit k, bit_at_above 72057594037927935 56 (over + k) (omega arith) far))
      ];
      all = λ place end occurs after inside.
          let k : ℕ = end - offset_at c.args.factors.now place - (c.args.seen + 1) in
          omega (arith, bit k, bit_at_ones 56 (over + k) (omega (arith, after, inside, occurs.ends, c.min-count.ensures)));
    }
