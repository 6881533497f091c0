-- A picker with a finder from now on is otherwise the same.
use Rattle.std.proofs.Common.{Bool, sym, ap, ◌∙◌}
use Rattle.line_pick.specs.Picking.{Picking}
use Rattle.grep_run.proofs.scanning.tune_if.Goals as goal

pub returns-in-Ok-Some : goal.returns-in-Ok-Some
returns-in-Ok-Some c =
    let p : Picking = c.args.picker.now in
    c.tune_by.ensures ∙ ap (λ (tunes : Bool). record p { tunes = tunes }) (sym (ap (λ (q : Picking). q.tunes) c.tune_by.ensures))
