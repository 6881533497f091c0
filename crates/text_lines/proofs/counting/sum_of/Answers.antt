-- As 16 bits, the lanes are what they were, and so is their sum.
use Rattle.std.proofs.Common.{◌∙◌, ap, arith, map, w16, zero-add}
use Rattle.std.specs.Simd.Lanes.{sum_l}
use Rattle.std.proofs.lemmas.List.{map-id}
use Rattle.std.proofs.lemmas.Simd.{fold-sum, sum_fits}
use Rattle.text_lines.proofs.Counts.{sum-bytes}
use Rattle.text_lines.proofs.counting.sum_of.Goals as goal

pub overflow_add-result : goal.overflow_add-result
overflow_add-result c =
    sum_fits w16 0 (map (λ lane. lane) c.args.lanes) (omega (arith, ap sum_l (map-id c.args.lanes), sum-bytes c.args.lanes c.fits-lanes.0 c.fits-lanes.1))

pub returns : goal.returns
returns c = fold-sum 0 (map (λ lane. lane) c.args.lanes) ∙ zero-add (sum_l (map (λ lane. lane) c.args.lanes)) ∙ ap sum_l (map-id c.args.lanes)
