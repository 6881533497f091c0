-- The suffixes belong to the literals.
use Rattle.list_index.proofs.ChainLemmas.{found_within}
use Rattle.list_index.proofs.index.ListIndex.first_ending.Goals as goal

pub next_ending-requires-clause-of : goal.next_ending-requires-clause-of
next_ending-requires-clause-of c = c.self.invariant.1

pub returns-clause-first : goal.returns-clause-first
returns-clause-first c = rw c.self.view_is at c.next_ending.ensures

pub returns-clause-within : goal.returns-clause-within
returns-clause-within c =
    found_within c.args.self.now c.args.text.now 0 c.args.end c.next_ending.result (rw c.self.view_is at c.next_ending.ensures)
