-- The end that the automaton finds is the next one.
use Rattle.text_automaton.proofs.automaton_ends.AutomatonEndsEndWalk.next_end.Goals as goal

pub returns-clause-next : goal.returns-clause-next
returns-clause-next c = rw (← c.self.view_is) c.next_with_state-found.ensures.next
