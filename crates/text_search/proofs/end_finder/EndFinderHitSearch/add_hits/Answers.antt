-- Each walk is over the plan's literals, which tuning does not change.
use Rattle.std.proofs.Common.{rules, ◌≡◌, Option, IfSome, ap, ◌∙◌, subst}
use Rattle.std.proofs.lemmas.Bool.{false≢true}
use Rattle.text_ends.specs.Walks.{Walk}
use Rattle.factor_search.specs.Factors.{Factored}
use Rattle.text_search.proofs.end_finder.EndFinderHitSearch.add_hits.Goals as goal

pub returns-in_err-stop-in-Factors-Some-clause-hits : goal.returns-in_err-stop-in-Factors-Some-clause-hits
returns-in_err-stop-in-Factors-Some-clause-hits c =
    let same = subst (λ (o : Option Factored). IfSome o (λ w. w.literals ≡ c.self.inside.shift_or.literals)) c.in-Factors-Some.is-1 c.self.invariant.0 in
    record {
      ok = search rules;
      same_hits = search rules;
      quiet = λ none.
          absurd (false≢true ((rw (ap (λ (w : Walk). w.literals) c.after-ends.ensures ∙ same ∙ c.self.view_is ∙ c.tune_if_due.ensures ∙ c.requires.plan) at c.in_err-stop-in-Factors-Some.ensures.quiet) none));
    }

pub returns-in_err-stop-in-ShiftOr-default-clause-hits : goal.returns-in_err-stop-in-ShiftOr-default-clause-hits
returns-in_err-stop-in-ShiftOr-default-clause-hits c = record {
  ok = search rules;
  same_hits = search rules;
  quiet = λ none.
      absurd (false≢true ((rw (ap (λ (w : Walk). w.literals) c.after-ends-in-ShiftOr-default.ensures ∙ c.self.view_is ∙ c.tune_if_due.ensures ∙ c.requires.plan) at c.in_err-stop-in-ShiftOr-default.ensures.quiet) none));
}

pub returns-in_err-stop-in-Prefilter-default-clause-hits : goal.returns-in_err-stop-in-Prefilter-default-clause-hits
returns-in_err-stop-in-Prefilter-default-clause-hits c = record {
  ok = search rules;
  same_hits = search rules;
  quiet = λ none.
      absurd (false≢true ((rw (ap (λ (w : Walk). w.literals) c.prefilter_ends-ends.ensures) at c.in_err-stop-in-Prefilter-default.ensures.quiet) none));
}
