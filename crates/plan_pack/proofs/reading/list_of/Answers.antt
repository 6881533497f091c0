-- A list that is had with its places is had.
use Rattle.plan_pack.proofs.ListLemmas.{without-places}
use Rattle.plan_pack.proofs.reading.list_of.Goals as goal

pub returns-in-Ok-clause-list : goal.returns-in-Ok-clause-list
returns-in-Ok-clause-list g c = without-places c.args.reading c.args.file.now _ _ c.in-Ok.list c.in-Ok._normal c.in-Ok.ensures.list
