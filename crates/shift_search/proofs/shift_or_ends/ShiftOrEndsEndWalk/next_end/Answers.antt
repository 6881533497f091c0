-- What the walk finds is the next end.
use Rattle.std.proofs.Common.{ℕ, List, Option, None, Some, MatchOption, length}
use Rattle.lit_base.specs.Literals.{Literals}
use Rattle.lit_base.specs.NextEnds.{Finds, IsNextEnd, NoEndAfter}
use Rattle.shift_search.proofs.shift_or_ends.ShiftOrEndsEndWalk.next_end.Goals as goal

-- an end that is found is the next one
next_of : (l : Literals) (text : List ℕ) (from : ℕ) (found : Option (ℕ × ℕ)) → Finds l text from (length text) found → MatchOption found (NoEndAfter l text from) (λ hit. IsNextEnd l text from hit.0)
next_of l text from None none = λ end after here. none end after here.1.ends here
next_of l text from (Some hit) found = record { after = found.after; within = found.first.occurs.ends; here = (hit.1, found.first.occurs); first = found.none }

pub returns-in-Some-clause-next : goal.returns-in-Some-clause-next
returns-in-Some-clause-next c = rw (← c.self.view_is) (next_of c.self.inside.shift_or.now.literals c.self.inside.text.now c.self.inside.from c.next_by-found.result c.next_by-found.ensures.next)

pub returns-in_default-clause-next : goal.returns-in_default-clause-next
returns-in_default-clause-next c = rw (← c.self.view_is) (next_of c.self.inside.shift_or.now.literals c.self.inside.text.now c.self.inside.from c.next_by-found.result c.next_by-found.ensures.next)
