-- The finder's list is the plan's.
use Rattle.std.proofs.Common.{◌≡◌, Option, IfSome, subst}
use Rattle.lit_base.specs.Literals.{Literals}
use Rattle.text_search.proofs.optional_finder.next_end_by.Goals as goal

pub next_end_in-requires : goal.next_end_in-requires
next_end_in-requires c = subst (λ (o : Option Literals). IfSome o (λ list. list ≡ c.args.search.now.plan.literals)) c.in-Some.is c.requires
