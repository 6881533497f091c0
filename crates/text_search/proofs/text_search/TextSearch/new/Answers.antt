-- The walk is over the plan's literals.
use Rattle.std.proofs.Common.{ap}
use Rattle.text_ends.specs.Walks.{Walk}
use Rattle.text_search.proofs.text_search.TextSearch.new.Goals as goal

pub invariant_of-result : goal.invariant_of-result
invariant_of-result c = ap (λ (w : Walk). w.literals) c.prefilter_ends.ensures
