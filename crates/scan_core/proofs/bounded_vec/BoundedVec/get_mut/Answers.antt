use Rattle.std.proofs.Common.{◌≡◌, ◌<◌, Option, length, get_or, map, set, Some, refl, sym, ap, ◌∙◌, subst, arith}
use Rattle.std.specs.Prelude.{IsSome}
use Rattle.scan_core.specs.BoundedVecs.{somes}
use Rattle.scan_core.proofs.BoundedVecLemmas.{all_somes, element_at, is_some_at, set_some, somes_all}
use Rattle.scan_core.proofs.bounded_vec.BoundedVec.get_mut.Goals as goal

pub invariant_of-self-lent : goal.invariant_of-self-lent
invariant_of-self-lent g c w =
    let items = c.self.inside.items.items in
    let xs = somes items in
    all_somes _ (set xs c.args.place w) (set_some items xs c.args.place w c.self.invariant)

pub element_of-requires : goal.element_of-requires
element_of-requires g c =
    let xs = somes c.self.inside.items.items in
    let item = c.in-Some.item.now in
    let within : c.args.place < length xs = omega (arith, c.requires, ap length c.self.view_is) in
    subst (λ (o : Option g.row.T.Denot). IsSome o)
    (sym (c.in-Some.ensures.value ∙ ap (λ ys. get_or ys c.args.place item) c.self.invariant))
    (is_some_at xs c.args.place item within)

pub returns : goal.returns
returns g c =
    let items = c.self.inside.items.items in
    let xs = somes items in
    let item = c.in-Some.item.now in
    let element = c.element_of.result.now in
    let within : c.args.place < length xs = omega (arith, c.requires, ap length c.self.view_is) in
    let is : get_or (map Some xs) c.args.place item ≡ Some element =
    sym (c.in-Some.ensures.value ∙ ap (λ ys. get_or ys c.args.place item) c.self.invariant) ∙ c.element_of.ensures.value in (
      (refl, λ w. somes_all _ (set xs c.args.place w) (set_some items xs c.args.place w c.self.invariant) ∙ ap (λ ys. set ys c.args.place w) c.self.view_is),
      record { writes_back = tt; value = element_at xs c.args.place item element within is ∙ ap (λ ys. get_or ys c.args.place element) c.self.view_is },
    )
