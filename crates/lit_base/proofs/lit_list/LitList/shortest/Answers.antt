-- The first length is the least.
use Rattle.std.proofs.Common.{length}
use Rattle.lit_base.proofs.LengthLemmas.{first_least}
use Rattle.lit_base.proofs.lit_list.LitList.shortest.Goals as goal

pub returns-clause-least : goal.returns-clause-least
returns-clause-least c = first_least c.args.self.now c.normal_law.ensures (length c.get.result.now) c.get.ensures.len
