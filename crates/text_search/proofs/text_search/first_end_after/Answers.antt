-- The search is of this text, by this plan.
use Rattle.std.proofs.Common.{subst}
use Rattle.text_search.specs.Searched.{FindsNext, Searched}
use Rattle.text_search.proofs.text_search.first_end_after.Goals as goal

pub returns : goal.returns
returns c = subst (λ (s : Searched). FindsNext s.plan.literals s.text c.args.from c.next_end_after.result) c.new.ensures c.next_end_after.ensures.next
