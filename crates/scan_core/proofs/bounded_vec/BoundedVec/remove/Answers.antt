use Rattle.std.proofs.Common.{Some, ap, ◌∙◌}
use Rattle.std.specs.List.{remove}
use Rattle.scan_core.specs.BoundedVecs.{somes}
use Rattle.scan_core.proofs.BoundedVecLemmas.{all_somes, remove-map, somes_all}
use Rattle.scan_core.proofs.bounded_vec.BoundedVec.remove.Goals as goal

pub invariant_of-self : goal.invariant_of-self
invariant_of-self g c =
    let old = somes c.self.inside.items.items in
    all_somes _ (remove old c.args.place)
    (c.remove.ensures.items ∙ ap (λ xs. remove xs c.args.place) c.self.invariant ∙ remove-map Some old c.args.place)

pub returns : goal.returns
returns g c =
    let old = somes c.self.inside.items.items in
    somes_all _ (remove old c.args.place)
    (c.remove.ensures.items ∙ ap (λ xs. remove xs c.args.place) c.self.invariant ∙ remove-map Some old c.args.place)
    ∙ ap (λ xs. remove xs c.args.place) c.self.view_is
