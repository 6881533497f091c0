use Rattle.scan_core.proofs.CarriedLemmas.{event_law_lem}
use Rattle.scan_core.proofs.world.event_law.Goals as goal

pub returns : goal.returns
returns c = event_law_lem
