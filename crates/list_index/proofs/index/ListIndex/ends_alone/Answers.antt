-- The flag says so.
use Rattle.std.proofs.Common.{false, sym, ◌∙◌, arith}
use Rattle.std.proofs.lemmas.List.{get_or_read}
use Rattle.list_index.specs.Alone.{SayAlone}
use Rattle.list_index.proofs.index.ListIndex.ends_alone.Goals as goal

pub returns : goal.returns
returns c =
    let flags = c.self.inside.alone.items in
    let are : SayAlone c.args.self.now flags = rw c.self.view_is at c.self.invariant.2 in
    let is = get_or_read flags c.args.place c.index.result.now (omega (arith, c.requires, are.all)) c.index.ensures false in
    let said = are.said c.args.place c.requires in
    (λ yes. said.0 (sym is ∙ yes), λ alone. is ∙ said.1 alone)
