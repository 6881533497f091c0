use Rattle.scan_core.proofs.WorldLemmas.{world_law_lem}
use Rattle.scan_core.proofs.world.world_law.Goals as goal

pub returns : goal.returns
returns c = world_law_lem
