-- A block in which no position passes and no end is pending holds no end. Near the start nothing is skipped.
use Rattle.std.proofs.Common.{◌≡◌, ℕ, ◌+◌, inl, inr, sym, subst, arith}
use Rattle.std.proofs.lemmas.Bool.{cases_lt}
use Rattle.std.proofs.lemmas.Nat.{le_or_l, le_or_r}
use Rattle.factor_search.specs.PendingEnds.{ArePending}
use Rattle.nib_mask.specs.Halves.{widened}
use Rattle.factor_search.proofs.PendingSteps.{none_further, none_passes, passes, nothing_pending}
use Rattle.text_ends.proofs.Bytes.{all_bytes}
use Rattle.factor_search.proofs.probing.next_pending.Goals as goal

pub returns-then-seen-lt-UNFILTERED-clause-none : goal.returns-then-seen-lt-UNFILTERED-clause-none
returns-then-seen-lt-UNFILTERED-clause-none c = λ from ahead first end later within here. absurd (omega (arith, ahead, later, within))

pub blocks-2-init : goal.blocks-2-init
blocks-2-init c = record {
  prefix = omega (arith, c.if-seen-lt-UNFILTERED.false);
  ahead = omega arith;
  inside = omega (arith, c.requires);
  none = λ from ahead first end later within here. absurd (omega (arith, ahead, later, within));
  pending = λ from first. first;
}

pub probe_passing-requires : goal.probe_passing-requires
probe_passing-requires c = record {
  inside = λ k few set. omega (arith, few, c.blocks-2-test.true);
  all = λ place end occurs after inside.
      passes c.args.factors.now (widened c.masks.result.now) c.args.text.now c.blocks-2.at c.passing-passing.result c.masks.ensures c.within_law.ensures (all_bytes c.args.text.now c.type_inv.text)
      (rw c.new-filter.ensures at c.passing-passing.ensures) place end occurs after (omega (arith, inside));
}

pub returns-then-passing-hash_bits-ne0-clause-pending : goal.returns-then-passing-hash_bits-ne0-clause-pending
returns-then-passing-hash_bits-ne0-clause-pending c = λ from first. c.probe_passing.ensures from (c.blocks-2.invariant.pending from first)

pub blocks-2-preserved : goal.blocks-2-preserved
blocks-2-preserved c =
    let w = c.args.factors.now in
    let text = c.args.text.now in
    let seen : ℕ = c.args.seen in
    let at : ℕ = c.blocks-2.at in
    let before = c.blocks-2.invariant in
    let none = c.if-passing-hash_bits-ne0.false in
    let none_passing : c.passing-passing.result ≡ 0 = omega (arith, le_or_l c.passing-passing.result c.args.hash_bits, none) in
    let unmarked : c.args.hash_bits ≡ 0 = omega (arith, le_or_r c.passing-passing.result c.args.hash_bits, none) in
    let further = λ (from : ℕ) (first : ArePending w text from seen (seen + 1) c.args.hash_bits).
    none_passes w (widened c.masks.result.now) text at c.passing-passing.result c.masks.ensures c.within_law.ensures (all_bytes text c.type_inv.text) (rw c.new-filter.ensures at c.passing-passing.ensures) from at none_passing
    (subst (λ (m : ℕ). ArePending w text from at (at + 1) m) unmarked (before.pending from first)) in
    record {
      prefix = omega (arith, before.prefix);
      ahead = omega (arith, before.ahead);
      inside = omega (arith, c.blocks-2-test.true, before.inside);
      none = λ from ahead first end later within here. elim (cases_lt at end) [
        | inl past ↦ nothing_pending w text from at (at + 64) (further from first) end later past within here
        | inr sooner ↦ before.none from ahead first end later sooner here
      ];
      pending = λ from first. subst (λ (m : ℕ). ArePending w text from (at + 64) (at + 64 + 1) m) (sym unmarked) (none_further w text from at (at + 64) (at + 64 + 1) (omega arith) (further from first));
    }

pub returns-clause-pending : goal.returns-clause-pending
returns-clause-pending c = λ from first. c.probe_each-2.ensures from (c.blocks-2.invariant.pending from first)
