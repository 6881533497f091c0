use Rattle.std.proofs.Common.{[], ◌∷◌, ◌++◌, Some, sym, ap, ◌∙◌}
use Rattle.std.proofs.lemmas.List.{map-append}
use Rattle.scan_core.specs.BoundedVecs.{somes}
use Rattle.scan_core.proofs.BoundedVecLemmas.{all_somes, somes_all}
use Rattle.scan_core.proofs.bounded_vec.BoundedVec.push.Goals as goal

pub invariant_of-self : goal.invariant_of-self
invariant_of-self g c =
    let old = somes c.self.inside.items.items in
    all_somes _ (old ++ c.args.item ∷ [])
    (c.push.ensures.items ∙ ap (λ xs. xs ++ Some c.args.item ∷ []) c.self.invariant ∙ sym (map-append Some old (c.args.item ∷ [])))

pub returns : goal.returns
returns g c =
    let old = somes c.self.inside.items.items in
    somes_all _ (old ++ c.args.item ∷ [])
    (c.push.ensures.items ∙ ap (λ xs. xs ++ Some c.args.item ∷ []) c.self.invariant ∙ sym (map-append Some old (c.args.item ∷ [])))
    ∙ ap (λ xs. xs ++ c.args.item ∷ []) c.self.view_is
