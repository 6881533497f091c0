-- The literals of the plan are no longer than the longest.
use Rattle.std.proofs.Common.{◌≡◌, ◌≤◌, All, Option, Some, length, ap, subst, sym}
use Rattle.std.specs.Option.{option_copied}
use Rattle.lit_base.specs.Literals.{Literals, lengths}
use Rattle.lit_plan.specs.Plans.{Plan}
use Rattle.line_pick.specs.Matching.{literals_of}
use Rattle.line_pick.proofs.Literals.{bounded-texts}
use Rattle.line_pick.proofs.open_line.longest_with.Goals as goal

pub returns-in-Some-clause-greatest : goal.returns-in-Some-clause-greatest
returns-in-Some-clause-greatest c =
    let most = c.longest.result in
    let known : option_copied c.args.plan ≡ Some c.in-Some.compiled.now = ap option_copied c.in-Some.is in
    let bound = subst (λ (l : Literals). All (λ len. len ≤ most) (lengths l)) c.list.ensures c.longest.ensures.greatest in
    subst (λ (p : Option Plan). All (λ t. length t ≤ most) (literals_of p)) (sym known) (bounded-texts c.in-Some.compiled.now.literals.texts most bound)
