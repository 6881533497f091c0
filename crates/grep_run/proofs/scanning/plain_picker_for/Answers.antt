-- A new picker has been fed nothing.
use Rattle.std.proofs.Common.{refl, ap}
use Rattle.line_pick.specs.Matching.{selects}
use Rattle.grep_run.proofs.ScanLemmas.{fed-none}
use Rattle.grep_run.proofs.scanning.plain_picker_for.Goals as goal

pub returns-clause-fed : goal.returns-clause-fed
returns-clause-fed c =
    let request = c.args.request.now in
    rw c.«new».ensures (fed-none _ _ (ap (λ plan. selects plan request.patterns.now.has_empty (record { invert = request.options.now.invert; whole = request.options.now.whole })) c.as_ref-plan.ensures.value) refl refl refl refl refl)
