-- All engines search for the plan's literals.
use Rattle.std.proofs.Common.{◌≡◌, IfSome, sym, ◌∙◌, subst}
use Rattle.lit_base.specs.Literals.{Literals}
use Rattle.text_search.proofs.end_finder.EndFinder.new.Goals as goal

pub invariant_of-result : goal.invariant_of-result
invariant_of-result c =
    let shared = c.in_ok-shift_or.ensures ∙ c.in_ok-shared_index.ensures in (
      subst (λ (l : Literals). IfSome c.in_ok-factors.factors (λ factors. factors.literals ≡ l)) (sym shared) c.in_ok-factors.ensures,
      c.in_ok-automaton.ensures.literals ∙ c.in_ok-shared_index-2.ensures ∙ sym shared,
    )
