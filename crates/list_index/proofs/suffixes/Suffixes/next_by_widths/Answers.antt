-- The lowest width comes first, as literals of fewer bytes come before; it is dropped where none of its literals
-- remains.
use Rattle.std.proofs.Common.{◌≡◌, ◌+◌, ◌-◌, ap, arith}
use Rattle.std.specs.Int.{bit_at, trailing_zeros, w8}
use Rattle.std.proofs.lemmas.Nat.Bits.{bit_at-zero}
use Rattle.list_index.specs.Chains.{key_width_at}
use Rattle.list_index.proofs.ChainLemmas.{fits_before, first_by_width}
use Rattle.list_index.proofs.CheckLemmas.{fewer_widths, lowest_of, narrower_none, others_left, widths_left}
use Rattle.lit_base.proofs.LengthLemmas.{lengths_rise}
use Rattle.list_index.proofs.suffixes.Suffixes.next_by_widths.Goals as goal

pub returns-then-end-width-clause-first : goal.returns-then-end-width-clause-first
returns-then-end-width-clause-first c = λ place counted occurs.
    let lowest = lowest_of c.loop-left.left (omega (arith, c.loop-left-test.true)) c.loop-left.auto.left-fits in
    let fits = fits_before c.args.literals.now c.args.text.now place c.args.end occurs in
    narrower_none c.args.literals.now c.args.self.now.checks c.requires.of.checks c.args.text.now c.args.from c.args.end c.loop-left.left _ c.loop-left.invariant lowest place counted
    (omega (arith, fits, c.if-end-width.true)) occurs

pub returns-in-Some-clause-first : goal.returns-in-Some-clause-first
returns-in-Some-clause-first c =
    let l = c.args.literals.now in
    let lowest = lowest_of c.loop-left.left (omega (arith, c.loop-left-test.true)) c.loop-left.auto.left-fits in
    first_by_width l c.args.text.now c.args.from c.args.end _ c.in-Some.place (lengths_rise l c.requires.normal)
    (narrower_none l c.args.self.now.checks c.requires.of.checks c.args.text.now c.args.from c.args.end c.loop-left.left _ c.loop-left.invariant lowest) c.in-Some.ensures

pub returns-in-Some-clause-keyed : goal.returns-in-Some-clause-keyed
returns-in-Some-clause-keyed c =
    let l = c.args.literals.now in
    let found = c.in-Some.ensures in
    let lowest = lowest_of c.loop-left.left (omega (arith, c.loop-left-test.true)) c.loop-left.auto.left-fits in
    others_left l c.requires.normal c.args.self.now.checks c.requires.of.checks c.args.text.now c.args.from c.args.end c.in-Some.place (trailing_zeros w8 c.loop-left.left + 1) c.loop-left.left c.widths_after.result
    found.occurs (omega (arith, found.counted)) (omega (arith, found.keyed, lowest.small)) c.loop-left.invariant c.widths_after.ensures

pub loop-left-smaller : goal.loop-left-smaller
loop-left-smaller c = fewer_widths c.loop-left.left _ (lowest_of c.loop-left.left (omega (arith, c.loop-left-test.true)) c.loop-left.auto.left-fits)

pub loop-left-preserved : goal.loop-left-preserved
loop-left-preserved c =
    let lowest = lowest_of c.loop-left.left (omega (arith, c.loop-left-test.true)) c.loop-left.auto.left-fits in
    widths_left c.args.literals.now c.args.self.now.checks c.requires.of.checks c.args.text.now c.args.from c.args.end c.loop-left.left _ c.loop-left.invariant lowest c.in_default.ensures

pub returns-clause-first : goal.returns-clause-first
returns-clause-first c = λ place counted occurs.
    let none : c.loop-left.left ≡ 0 = omega (arith, c.loop-left-test.false) in
    absurd (omega (arith, c.loop-left.invariant place counted occurs, ap (λ w. bit_at w (key_width_at c.args.literals.now place - 1)) none, bit_at-zero (key_width_at c.args.literals.now place - 1)))
