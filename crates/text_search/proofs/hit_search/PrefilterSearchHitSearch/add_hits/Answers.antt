-- The walk is over the plan's literals.
use Rattle.std.proofs.Common.{ap}
use Rattle.text_ends.specs.Walks.{Walk}
use Rattle.text_search.proofs.hit_search.PrefilterSearchHitSearch.add_hits.Goals as goal

pub returns-clause-hits : goal.returns-clause-hits
returns-clause-hits c =
    let same = ap (λ (w : Walk). w.literals) c.prefilter_ends-ends.ensures in
    record { ok = rw same at c.add_hits_of.ensures.ok; same_hits = c.add_hits_of.ensures.same_hits; quiet = rw same at c.add_hits_of.ensures.quiet }
