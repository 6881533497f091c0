-- Up to the lowest remaining bit no literal ends.
use Rattle.std.proofs.Common.{◌≡◌, ◌+◌, ◌-◌, ap, ◌∙◌, subst, arith}
use Rattle.std.specs.Int.{bit_at}
use Rattle.std.proofs.lemmas.Nat.Bits.{bit_at-zero}
use Rattle.lit_base.specs.Occurrences.{HasEnd}
use Rattle.factor_search.proofs.HashBitSteps.{later_marked, none_below}
use Rattle.factor_search.proofs.factor_ends.Pending.first_end.Goals as goal

pub loop-rest-init : goal.loop-rest-init
loop-rest-init c = λ other near here.
    let bit : other ≡ c.args.self.seen + 1 + other - (c.args.self.seen + 1) = omega arith in
    ap (bit_at c.args.self.hash_bits) bit ∙ c.requires.state.pending here.0 (c.args.self.seen + 1 + other) here.1 (omega arith) (omega arith) (omega (arith, near))

pub returns-then-back-self-clause-next : goal.returns-then-back-self-clause-next
returns-then-back-self-clause-next c = λ end further within here.
    let l = c.args.factors.now.literals in
    let text = c.args.text.now in
    let other = end - (c.args.self.seen + 1) in
    let place : end ≡ c.args.self.seen + 1 + other = omega (arith, further) in
    let bit = c.split_lowest-back in
    let first = none_below l text c.args.self.seen c.args.self.count c.loop-rest.rest c.loop-rest.invariant bit.result.0 bit.result.1 bit.ensures other (omega (arith, further, within)) (subst (HasEnd l text) place here) in
    absurd (omega (arith, first, further, within, c.if-back-self.true))

pub returns-in-Some-clause-next : goal.returns-in-Some-clause-next
returns-in-Some-clause-next c =
    let l = c.args.factors.now.literals in
    let text = c.args.text.now in
    let seen = c.args.self.seen in
    let bit = c.split_lowest-back in
    let occurs = (rw c.index-index.ensures at c.in-Some.ensures.first).occurs in
    record {
      after = omega arith;
      within = occurs.ends;
      here = (c.in-Some.first, occurs);
      first = λ other after sooner there.
          let place : other ≡ seen + 1 + (other - (seen + 1)) = omega (arith, after) in
          let first = none_below l text seen c.args.self.count c.loop-rest.rest c.loop-rest.invariant bit.result.0 bit.result.1 bit.ensures (other - (seen + 1)) (omega (arith, after, sooner, c.if-back-self.false)) (subst (HasEnd l text) place there) in
          absurd (omega (arith, first, after, sooner));
    }

pub loop-rest-preserved : goal.loop-rest-preserved
loop-rest-preserved c =
    let bit = c.split_lowest-back in
    later_marked c.args.factors.now.literals c.args.text.now c.args.self.seen c.args.self.count c.loop-rest.rest c.loop-rest.invariant bit.result.0 bit.result.1 bit.ensures
    (λ there. (rw c.index-index.ensures at c.in_default.ensures.first) there.0 (omega arith) there.1)

pub returns-clause-next : goal.returns-clause-next
returns-clause-next c = λ end further within here.
    let other = end - (c.args.self.seen + 1) in
    let place : end ≡ c.args.self.seen + 1 + other = omega (arith, further) in
    let left = c.loop-rest.invariant other (omega (arith, further, within)) (subst (HasEnd c.args.factors.now.literals c.args.text.now) place here) in
    absurd (omega (arith, left, ap (λ m. bit_at m other) c.loop-rest-test.false, bit_at-zero other))
