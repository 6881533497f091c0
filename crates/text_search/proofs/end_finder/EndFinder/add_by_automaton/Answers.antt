-- The walk is over the finder's literals, which are the plan's.
use Rattle.std.proofs.Common.{rules, ap, ◌∙◌}
use Rattle.std.proofs.lemmas.Bool.{false≢true}
use Rattle.text_ends.specs.Walks.{Walk}
use Rattle.text_search.proofs.end_finder.EndFinder.add_by_automaton.Goals as goal

pub returns-in_err-stop-clause-hits : goal.returns-in_err-stop-clause-hits
returns-in_err-stop-clause-hits c = record {
  ok = search rules;
  same_hits = search rules;
  quiet = λ none.
      absurd (false≢true ((rw (ap (λ (w : Walk). w.literals) c.in-Some.ensures.some ∙ c.self.invariant.1 ∙ c.self.view_is ∙ c.requires.plan) at c.in_err-stop.ensures.quiet) none));
}
