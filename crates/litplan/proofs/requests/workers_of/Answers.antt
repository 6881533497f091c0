-- They are as many as their text spells.
use Rattle.std.proofs.Common.{Some, codes}
use Rattle.program_words.specs.Matches.{IsNumber}
use Rattle.program_words.proofs.NumberLemmas.{counted, number_read}
use Rattle.plan_run.specs.declared.workers.Workers.{Workers}
use Rattle.litplan.proofs.requests.workers_of.Goals as goal

pub returns : goal.returns
returns c =
    let m = c.args.found.now in
    let id = codes "workers" in
    counted (λ (x : Workers). x.count) _ (IsNumber m id) c.in_ok-get_one.field-0 c.new.result c.new.ensures
    (number_read 64 m id (Some c.in_ok-get_one.field-0) c.in_ok-get_one.ensures.none c.in_ok-get_one.ensures.value)
