use Rattle.std.proofs.Common.{◌≡◌, ◌∙◌, ap, arith, bit_or, get_or, sym}
use Rattle.byte_lanes.specs.Entries.{entries_value}
use Rattle.byte_lanes.proofs.EntryLemmas.{entries_value-none, entries_value-more}
use Rattle.byte_lanes.proofs.LaneLemmas.{lanes_named, lanes_of_splat}
use Rattle.byte_lanes.proofs.entries.Entries.look_up.Goals as goal

pub loop-i-init : goal.loop-i-init
loop-i-init c =
    lanes_named _ (lanes_of_splat 0) (λ k l. sym (entries_value-none c.args.self.now.halves c.args.self.now.values (get_or c.args.halves k 0)))

pub loop-i-preserved : goal.loop-i-preserved
loop-i-preserved c =
    let self = c.args.self.now in
    lanes_named _ c.either_wide-sum.ensures
    (λ k l.
    (λ i. bit_or (c.loop-i.invariant.each k l i) (c.value_where_wide-value.ensures.each k l i))
    ∙ sym (entries_value-more self.halves self.values c.loop-i.i (get_or c.args.halves k 0)))

pub returns : goal.returns
returns c =
    let done : c.loop-i.i ≡ c.args.self.now.count = omega arith in
    lanes_named _ c.loop-i.invariant (λ k l. ap (λ n. entries_value c.args.self.now.halves c.args.self.now.values n (get_or c.args.halves k 0)) done)
