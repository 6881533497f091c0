-- The remaining ends of the given state are verified, then 32 positions a turn.
use Rattle.std.proofs.Common.{◌≡◌, ℕ, ◌+◌, ◌*◌, ◌≤◌, List, length, slice_index, sym, ap, ◌∙◌, subst, arith}
use Rattle.std.specs.Int.{bit_at}
use Rattle.std.proofs.lemmas.Nat.Bits.{bit_at-zero}
use Rattle.lit_base.specs.NextEnds.{NoEndUpTo}
use Rattle.shift_search.specs.Probes.{IsPassed}
use Rattle.shift_search.specs.ShiftOr.{AreRuled, Bucketing, RulesOut}
use Rattle.shift_search.specs.declared.joining.FourRuled.{FourRuled}
use Rattle.shift_search.proofs.ShiftOrLemmas.{none_of_group}
use Rattle.text_ends.proofs.EndLemmas.{none_joined}
use Rattle.shift_search.proofs.shift_or.ShiftOr.next_by_step.Goals as goal

-- what the probes of a turn rule out after it
after_turn : (b : Bucketing) (text : List ℕ) (at : ℕ) (ruled : FourRuled) → AreRuled b text (at + 8) ruled → RulesOut b text (at + 32 + 8) (slice_index ruled.after 3)
after_turn b text at ruled are =
    let there : at + 8 + 8 + 8 * 3 ≡ at + 32 + 8 = omega arith in
    subst (λ p. RulesOut b text p (slice_index ruled.after 3)) there (are.after 3 (omega arith))

-- the state after a turn in which nothing ends
turned : (b : Bucketing) (text : List ℕ) (start at before : ℕ) (ruled : FourRuled) → IsPassed b text start at before → AreRuled b text (at + 8) ruled → at + 39 ≤ length text → NoEndUpTo b.literals text start (at + 32 + 7)
    → IsPassed b text start (at + 32) (slice_index ruled.after 3)
turned b text start at before ruled passed are inside none = record {
  some = omega (arith, passed.some);
  near = omega (arith, passed.near);
  within = omega (arith, inside);
  none = none;
  rules = after_turn b text at ruled are;
}

pub fours-init : goal.fours-init
fours-init g c =
    let probes = c.requires.probes in
    record {
      some = probes.some;
      near = probes.near;
      within = probes.within;
      none = c.in_default.ensures c.args.start probes;
      rules = subst (RulesOut c.args.self.now c.args.text.now (c.args.probes.at + 8)) (sym c.last_alone-before.ensures) probes.carried;
    }

pub verify_four-requires-clause-ruled : goal.verify_four-requires-clause-ruled
verify_four-requires-clause-ruled g c =
    let b = c.args.self.now in
    c.with_those_before-ruled.ensures b c.args.text.now (c.fours.at + 8) (c.four_probes-now.ensures b c.requires.entries) c.fours.invariant.rules

pub verify_four-requires-clause-after : goal.verify_four-requires-clause-after
verify_four-requires-clause-after g c =
    let b = c.args.self.now in
    let there : c.fours.at + 32 + 8 ≡ c.fours.at + 8 + 32 = omega arith in
    subst (λ p. RulesOut b c.args.text.now p c.last_of-carried.result) there (subst (RulesOut b c.args.text.now (c.fours.at + 32 + 8)) (sym c.last_of-carried.ensures)
    (after_turn b c.args.text.now c.fours.at c.four_probes-now.result (c.four_probes-now.ensures b c.requires.entries)))

pub returns-in-Some-verify_four : goal.returns-in-Some-verify_four
returns-in-Some-verify_four g c =
    let before = c.fours.invariant in
    c.in-Some-verify_four.ensures c.args.start (omega (arith, before.near)) (λ end later within. before.none end later (omega (arith, within)))

-- where they leave ends but no literal ends there
pub pass_blocks-passed-requires-clause-passed : goal.pass_blocks-passed-requires-clause-passed
pass_blocks-passed-requires-clause-passed g c =
    let b = c.args.self.now in
    let text = c.args.text.now in
    let start = c.args.start in
    let before = c.fours.invariant in
    subst (IsPassed b text start (c.fours.at + 32)) (sym c.last_of-carried.ensures) (
    turned b text start c.fours.at _ c.four_probes-now.result before (c.four_probes-now.ensures b c.requires.entries) (omega (arith, c.fours-test.true, c.saturating_sub-last_four.ensures))
    (λ end later within. c.in_default-verify_four.ensures start (omega (arith, before.near)) (λ other past upto. before.none other past (omega (arith, upto))) end later (omega (arith, within))))

-- and no blocks after them
pub fours-preserved-else-tries_blocks : goal.fours-preserved-else-tries_blocks
fours-preserved-else-tries_blocks g c =
    let b = c.args.self.now in
    let before = c.fours.invariant in
    turned b c.args.text.now c.args.start c.fours.at _ c.four_probes-now.result before (c.four_probes-now.ensures b c.requires.entries) (omega (arith, c.fours-test.true, c.saturating_sub-last_four.ensures))
    (λ end later within. c.in_default-verify_four.ensures c.args.start (omega (arith, before.near)) (λ other past upto. before.none other past (omega (arith, upto))) end later (omega (arith, within)))

-- where the probes at 32 positions leave no end
pub fours-preserved : goal.fours-preserved
fours-preserved g c =
    let b = c.args.self.now in
    let text = c.args.text.now in
    let before = c.fours.invariant in
    let at : ℕ = c.fours.at + 8 in
    let are : AreRuled b text at c.four_probes-now.result = c.four_probes-now.ensures b c.requires.entries in
    let gone : c.lacking.result ≡ 0 = omega (arith, c.if-lacking-ne0.false) in
    let ruled = c.with_those_before-ruled.ensures b text at are before.rules in
    let own = none_of_group b text at c.with_those_before-ruled.result (omega arith) ruled (λ i below. c.lacking.ensures.full i below (ap (λ m. bit_at m i) gone ∙ bit_at-zero i)) in
    turned b text c.args.start c.fours.at _ c.four_probes-now.result before are (omega (arith, c.fours-test.true, c.saturating_sub-last_four.ensures))
    (none_joined b.literals text c.args.start (c.fours.at + 7) before.none (c.fours.at + 32 + 7) (λ end later within. own end (omega (arith, later)) (omega (arith, within))))
