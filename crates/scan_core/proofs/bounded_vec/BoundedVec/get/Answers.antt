use Rattle.std.proofs.Common.{◌≡◌, length, get_or, map, Some, None, sym, ap, ◌∙◌, arith}
use Rattle.scan_core.specs.BoundedVecs.{somes}
use Rattle.scan_core.proofs.BoundedVecLemmas.{some_at}
use Rattle.scan_core.proofs.bounded_vec.BoundedVec.get.Goals as goal

pub unreachable-requires : goal.unreachable-requires
unreachable-requires g c =
    let xs = somes c.self.inside.items.items in
    let d = c.index-deref-place.result in
    let whole : c.deref.result.now ≡ map Some xs = c.deref.ensures.0 ∙ c.self.invariant in
    let none : get_or (map Some xs) c.args.place d ≡ None =
    ap (λ ys. get_or ys c.args.place d) (sym whole) ∙ sym c.index-deref-place.is ∙ c.in-None.is in
    let len : length xs ≡ length c.args.self.now = ap length c.self.view_is in
    some_at xs c.args.place d (omega (arith, len, c.requires)) none
