use Rattle.std.proofs.Common.{◌≡◌, ◌≢◌, ◌↔◌, ◌%◌, ◌^◌, ◌++◌, ℕ, List, not, cond, eqb, length, get_or, map, replicate, sym, subst, arith, length-append, w8}
use Rattle.std.specs.Int.{bit_at}
use Rattle.std.specs.Simd.Lanes.{zip2, mask_l, top}
use Rattle.std.proofs.lemmas.Simd.{pick_l_whole}
use Rattle.byte_lanes.proofs.LaneLemmas.{bit_of_nonzero}
use Rattle.byte_lanes.proofs.lanes.nonzero_bits.Goals as goal

pub returns : goal.returns
returns c k =
    let v = c.args.low ++ c.args.high in
    let long : length v ≡ 64 = omega (arith, length-append c.args.low c.args.high, c.fits-low.0, c.fits-high.0) in
    subst (λ (us : List ℕ). (bit_at (mask_l (map (top 7) (zip2 (λ m n. cond (not (eqb m n)) 255 0) us (replicate 64 0))) % 2 ^ 64) k ≡ 1) ↔ (get_or v k 0 ≢ 0))
    (sym (pick_l_whole 0 v 64 long)) (bit_of_nonzero w8 v 64 k long (omega arith))
