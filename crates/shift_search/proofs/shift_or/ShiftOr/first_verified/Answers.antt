-- The lowest bit stands for the first remaining end. If no literal of its bucket ends there, it is dropped, and if no
-- literal at all does, so are the other bits of that end.
use Rattle.std.proofs.Common.{◌+◌, ◌/◌, ap, ◌∙◌, arith}
use Rattle.lit_base.specs.Occurrences.{NoneEnds}
use Rattle.shift_search.specs.ShiftOr.{Bucketing}
use Rattle.shift_search.proofs.ShiftOrLemmas.{later_left, lowest_verified, no_more_bits, none_left, others_left}
use Rattle.shift_search.proofs.shift_or.ShiftOr.first_verified.Goals as goal
use Rattle.shift_search.proofs.shift_or.ShiftOr.first_verified.Goals.{then-may_end+in_default, else-may_end}

pub returns-in-Some : goal.returns-in-Some
returns-in-Some c = λ start are.
    let probes = c.args.probes in
    let bit = c.split_lowest-bit.result in
    lowest_verified c.args.self.now c.args.text.now start probes.at c.ends.unruled probes.carried bit.0 bit.1 c.bits_after-left.result c.in-Some.first c.requires.inside (c.ends.invariant start are)
    c.split_lowest-bit.ensures c.bits_after-left.ensures (rw (c.deref.ensures ∙ ap (λ (b : Bucketing). b.literals) c.self.view_is) at c.in-Some.ensures.first)

pub ends-preserved : goal.ends-preserved
ends-preserved c = λ start are.
    let b = c.args.self.now in
    let text = c.args.text.now in
    let probes = c.args.probes in
    let old = c.ends.invariant start are in
    let bit = c.split_lowest-bit.result in
    elim c.if-may_end.branch [
      | then-may_end+in_default w ↦
          let none : NoneEnds b.literals text 0 (probes.at + bit.0 / 8) = rw (w.deref.ensures ∙ ap (λ (b : Bucketing). b.literals) c.self.view_is) at w.in_default.ensures.first in
          rw (w.left-is) (later_left b text start probes.at c.ends.unruled probes.carried bit.0 bit.1 _ c.requires.inside old c.split_lowest-bit.ensures w.bits_after-left.ensures none)
      | else-may_end w ↦ rw (w.left-is) (others_left b text start probes.at c.ends.unruled probes.carried bit.0 bit.1 c.requires.inside old c.split_lowest-bit.ensures (c.may_end.ensures w.if-may_end.false))
    ]

pub ends-smaller : goal.ends-smaller
ends-smaller c =
    let split = c.split_lowest-bit.ensures in
    elim c.if-may_end.branch [
      | then-may_end+in_default w ↦ omega (arith, split.less, w.left-is, no_more_bits w.bits_after-left.result c.split_lowest-bit.result.1 (λ k set. ((w.bits_after-left.ensures k).0 set).1))
      | else-may_end w ↦ omega (arith, split.less, w.left-is)
    ]

pub returns : goal.returns
returns c = λ start are. none_left c.args.self.now c.args.text.now start _ (c.ends.invariant start are) (omega (arith, c.ends-test.false))
