-- The masks are made of all literals, by their offsets.
use Rattle.factor_search.proofs.factors.masks_of.Goals as goal

pub returns-clause-masks : goal.returns-clause-masks
returns-clause-masks c = c.of_prefixes.ensures
