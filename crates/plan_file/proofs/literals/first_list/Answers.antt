use Rattle.std.proofs.Common.{[], arith}
use Rattle.lit_base.specs.declared.limits.TheConstants.{MAX_LIST_LEN}
use Rattle.plan_file.proofs.LiteralLemmas.{literals_follow, normal_from}
use Rattle.plan_file.proofs.PlanLemmas.{limit_few}
use Rattle.plan_file.proofs.literals.first_list.Goals as goal

pub list_of-requires : goal.list_of-requires
list_of-requires c =
    let fold = c.fold_of-fold.result in
    let follow = literals_follow fold c.from-count.result MAX_LIST_LEN [] c.in_ok-count.literals.now (c.in_ok-list.list, c.in_ok-list.rest.now) c.in_ok-list.ensures in
    normal_from fold c.in_ok-list.list (omega (arith, follow.0, limit_few c.args.version)) follow.1
