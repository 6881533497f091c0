-- A literal that is not long is shown whole.
use Rattle.std.proofs.Common.{◌≡◌, take, arith}
use Rattle.std.proofs.lemmas.Grind.{common_steps}
use Rattle.std.proofs.lemmas.List.{take_all}
use Rattle.plan_view.proofs.quotes.push_quoted.Goals as goal

pub returns-else-literal-gt-MAX_SHOWN : goal.returns-else-literal-gt-MAX_SHOWN
returns-else-literal-gt-MAX_SHOWN c =
    let all : take 24 c.args.literal.now ≡ c.args.literal.now = take_all 24 c.args.literal.now (omega arith) in
    grind (arith, common_steps, all)
