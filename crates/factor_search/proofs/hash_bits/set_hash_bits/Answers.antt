-- No bit is set at first, and each literal adds its factor alone.
use Rattle.std.proofs.Common.{◌≡◌, ℕ, length, get_or, replicate, slice_index, inl, inr, sym, ap, ◌∙◌, subst, arith}
use Rattle.std.specs.Int.{bit_at}
use Rattle.std.proofs.lemmas.Bool.{cases_lt}
use Rattle.std.proofs.lemmas.List.{get_or-replicate, get_or_past, length-replicate}
use Rattle.std.proofs.lemmas.Nat.Bits.{bit_at-zero}
use Rattle.factor_search.specs.Factors.{AreFactorBits}
use Rattle.factor_search.proofs.hash_bits.set_hash_bits.Goals as goal

zero_at : (n i : ℕ) → get_or {A = ℕ} (replicate n 0) i 0 ≡ 0
zero_at n i = elim (cases_lt i n) [ inl low ↦ get_or-replicate {A = ℕ} n i 0 0 low | inr past ↦ get_or_past (replicate {A = ℕ} n 0) i 0 (omega (arith, past, length-replicate {A = ℕ} n 0)) ]

pub loop-place-init : goal.loop-place-init
loop-place-init c = record {
  offsets_len = omega (arith, c.requires.offsets);
  factors = λ place low. absurd (omega (arith, low));
  bits = record {
    room = omega (arith, c.fill.ensures.len, c.requires.hash_bits);
    has = λ place low. absurd (omega (arith, low));
    only = λ number bit now.
        let none : slice_index c.fill.new.self.items number ≡ 0 = ap (λ xs. get_or xs number 0) (c.fill.ensures.items (λ y same. same)) ∙ zero_at _ number in
        absurd (omega (arith, sym (ap (λ m. bit_at m bit) none) ∙ now, bit_at-zero bit));
  };
}

pub returns : goal.returns
returns c =
    let all : c.loop-place.place ≡ length c.args.list.now.texts = omega (arith, c.loop-place-test.false, c.loop-place.auto.place-end, c.len-place-end.ensures.value) in
    subst (λ count. AreFactorBits c.args.list.now c.loop-place.offsets.items c.loop-place.hash_bits.items count) all c.loop-place.invariant
