-- A picker that got a finder has been fed as much as before.
use Rattle.std.proofs.Common.{◌≡◌, ◌∙◌, Option, Some, IfSome, ap, subst}
use Rattle.lit_base.specs.Literals.{Literals}
use Rattle.line_pick.specs.Matching.{list_of}
use Rattle.grep_run.proofs.scanning.numbered_picker_for.Goals as goal

pub tune_by-requires : goal.tune_by-requires
tune_by-requires c =
    let plan = c.args.request.now.patterns.now.plan in
    let same : list_of plan ≡ Some c.in-Some.finder = subst (λ (o : Option Literals). IfSome o (λ list. list_of plan ≡ Some list)) c.in-Some.is c.requires in
    ap list_of c.plain_picker_for-picker.ensures.plan ∙ same

pub returns-in-Some-clause-fed : goal.returns-in-Some-clause-fed
returns-in-Some-clause-fed c =
    let fed = c.plain_picker_for-picker.ensures.fed in
    rw c.tune_by.ensures (record { tests = fed.tests; held = fed.held; lines = fed.lines; bytes = fed.bytes; state = fed.state })
