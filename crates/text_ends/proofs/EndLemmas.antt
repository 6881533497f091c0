-- The next end, seen from a position before the one that a search has reached.
use Rattle.std.proofs.Common.{ℕ, ◌≤◌, List, MatchOption, Option, None, Some, inl, inr, arith}
use Rattle.std.proofs.lemmas.Bool.{cases_lt}
use Rattle.lit_base.specs.NextEnds.{IsNextEnd, NoEndAfter, NoEndUpTo}
use Rattle.lit_base.specs.Literals.{Literals}

module _ (l : Literals) (text : List ℕ) (from seen : ℕ) (none : NoEndUpTo l text from seen) where
  -- then no literal ends further on, if none does after the second position
  pub none_further : NoEndAfter l text seen → NoEndAfter l text from
  none_further ends end after here = elim (cases_lt seen end) [ inl later ↦ ends end later here | inr sooner ↦ none end after sooner here ]

  -- and the next end after the second position is the next after the first
  pub next_further : (end : ℕ) → from ≤ seen → IsNextEnd l text seen end → IsNextEnd l text from end
  next_further end ahead next = record {
    after = omega (arith, next.after);
    within = next.within;
    here = next.here;
    first = λ other after before here. elim (cases_lt seen other) [ inl later ↦ next.first other later before here | inr sooner ↦ none other after sooner here ];
  }

  -- so with what a search found
  pub next_or_none_further : (found : Option (ℕ × ℕ)) → from ≤ seen → MatchOption found (NoEndAfter l text seen) (λ hit. IsNextEnd l text seen hit.0)
      → MatchOption found (NoEndAfter l text from) (λ hit. IsNextEnd l text from hit.0)
  next_or_none_further None ahead ends = none_further ends
  next_or_none_further (Some hit) ahead next = next_further hit.0 ahead next

  -- where none ends up to a third place, none does from the first one on
  pub none_joined : (last : ℕ) → NoEndUpTo l text seen last → NoEndUpTo l text from last
  none_joined last later other after within here = elim (cases_lt seen other) [ inl past ↦ later other past within here | inr sooner ↦ none other after sooner here ]
