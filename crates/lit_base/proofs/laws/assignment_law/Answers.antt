use Rattle.std.proofs.Common.{length, sym, subst}
use Rattle.std.proofs.lemmas.List.{length-map}
use Rattle.lit_base.specs.Literals.{lengths}
use Rattle.lit_base.specs.Cuts.{IsCut}
use Rattle.lit_base.proofs.Assigned.{IsAssignment-from_cut, assign_price-from_cut}
use Rattle.lit_base.proofs.laws.assignment_law.Goals as goal

pub returns-clause-assignment : goal.returns-clause-assignment
returns-clause-assignment c =
    IsAssignment-from_cut c.args.most (length c.args.list.now.texts) c.args.ends.now c.requires

pub returns-clause-price : goal.returns-clause-price
returns-clause-price c =
    let size = length-map c.args.list.now.texts length in
    let cut = subst (λ n. IsCut c.args.most n c.args.ends.now) (sym size) c.requires in
    assign_price-from_cut c.args.most (lengths c.args.list.now) c.args.ends.now c.len-count.ensures.rising cut
