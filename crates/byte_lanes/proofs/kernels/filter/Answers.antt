use Rattle.std.proofs.Common.{ℕ, ◌∙◌, ap, arith, get_or}
use Rattle.nib_mask.specs.Tables.{table_value}
use Rattle.byte_lanes.proofs.FilterLemmas.{lanes_of_slices, holds_after_store}
use Rattle.byte_lanes.proofs.kernels.filter.Goals as goal

pub loop-out-preserved : goal.loop-out-preserved
loop-out-preserved c =
    let masks = c.args.masks.now in
    let x0 = c.args.x0.now in
    let x1 = c.args.x1.now in
    let x2 = c.args.x2.now in
    let at = c.loop-out.at in
    let value : ℕ → ℕ = λ k. table_value masks (get_or x0 k 0) (get_or x1 k 0) (get_or x2 k 0) in
    let lanes = lanes_of_slices masks x0 x1 x2 at c.load.ensures c.load-in-loop-out.ensures c.load-in-loop-out-2.ensures (c.filter-numbers.ensures masks c.of-entries.ensures) in (
      omega arith,
      λ k l. ap (λ o. get_or o k 0) c.store_wide.ensures ∙ holds_after_store value c.loop-out.out _ at (omega arith) lanes c.loop-out.invariant.1 k l,
    )
