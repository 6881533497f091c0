-- Nothing ends past the text.
use Rattle.std.proofs.Common.{ap, length, arith}
use Rattle.text_ends.proofs.HitLists.{none_past}
use Rattle.text_search.proofs.end_finder.EndFinder.next_end_in.Goals as goal

pub returns-then-from-text-clause-next : goal.returns-then-from-text-clause-next
returns-then-from-text-clause-next c =
    none_past c.args.search.now.plan.literals c.args.search.now.text c.args.from (omega (arith, c.if-from-text.true, ap length c.text-text.ensures))
