-- One noted word after the other is verified.
use Rattle.std.proofs.Common.{◌≡◌, ℕ, ◌+◌, ◌-◌, ◌*◌, ◌<◌, slice_index, inl, inr, subst, arith}
use Rattle.std.proofs.Math.Facts.{Fits-lt-pow}
use Rattle.std.proofs.lemmas.Bool.{cases_lt}
use Rattle.std.proofs.lemmas.Nat.Bits.{bit_at-zero}
use Rattle.lit_base.specs.NextEnds.{NoEndUpTo}
use Rattle.shift_search.specs.ShiftOr.{bucket_at}
use Rattle.shift_search.proofs.BlockLemmas.{none_of_block}
use Rattle.shift_search.proofs.ShiftOrLemmas.{probes_here}
use Rattle.shift_search.proofs.shift_or.ShiftOr.has_end.Goals as goal

pub loop-slot-preserved : goal.loop-slot-preserved
loop-slot-preserved c = λ slot below. elim (cases_lt slot c.loop-slot.slot) [
  | inl sooner ↦ c.loop-slot.invariant slot sooner
  | inr past ↦
      let b = c.args.self.now in
      let text = c.args.text.now in
      let word : ℕ = slice_index c.args.numbers.now c.loop-slot.slot in
      let at : ℕ = c.args.at + 8 * word in
      let inside : word < 128 = c.requires.noted.inside c.loop-slot.slot c.loop-slot-test.true in
      let probes = probes_here b text (at - 1) at (slice_index c.args.words.now word) 0 (omega (arith, c.requires.eight)) (omega (arith, c.requires.eight)) (omega (arith, c.requires.inside, inside))
      (Fits-lt-pow (c.type_inv.words word)) (λ end after upto. absurd (omega (arith, after, upto))) (c.requires.noted.rules word inside) (λ place ahead near occurs. bit_at-zero (8 * ahead + bucket_at b.buckets place)) in
      let own : NoEndUpTo b.literals text (at - 1) (at + 7) = c.in_default.ensures (at - 1) probes in
      let here : c.loop-slot.slot ≡ slot = omega (arith, past, below) in
      subst (λ s. NoEndUpTo b.literals text (c.args.at + 8 * slice_index c.args.numbers.now s - 1) (c.args.at + 8 * slice_index c.args.numbers.now s + 7)) here own
]

pub returns : goal.returns
returns c = λ _ end after within. none_of_block c.args.self.now c.args.text.now c.args.at 32 c.args.words.now c.args.numbers.now c.args.count c.requires.eight c.requires.noted
    (λ slot below. c.loop-slot.invariant slot (omega (arith, below, c.loop-slot-test.false))) end after (omega (arith, within))
