use Rattle.std.proofs.Common.{◌<◌, length, arith, ⊎_elim}
use Rattle.plan_file.proofs.StreamLemmas.{file_announces}
use Rattle.fiolargu.proofs.StatusLemmas.{file_starved, memory_is_not_bad, some_plans}
use Rattle.fiolargu.proofs.files.fiolargu_plan_load.Goals as goal

pub returns-in-Err-clause-right : goal.returns-in-Err-clause-right
returns-in-Err-clause-right c = λ plans file is. memory_is_not_bad (c.in-Err.ensures.right plans file) is

pub returns-in-Err-clause-starved : goal.returns-in-Err-clause-starved
returns-in-Err-clause-starved c = λ is. c.in-Err.ensures.starved (file_starved c.in-Err.ensures.refused is)

pub returns-in-Ok-clause-starved : goal.returns-in-Ok-clause-starved
returns-in-Ok-clause-starved c = λ is.
    let plans = c.in-Ok.plans.items in
    let some : 0 < length plans =
    ⊎_elim (λ ok. omega (arith, c.load.ensures.found ok))
    (⊎_elim (λ none. let same = rw none at is in absurd cc) (λ memory. some_plans (length plans) c.args.which c.load.result c.load.ensures.missing memory)) c.load.ensures.refused in
    file_announces c.args.file.now plans c.in-Ok.ensures.found some
