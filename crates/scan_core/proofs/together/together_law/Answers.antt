use Rattle.scan_core.proofs.TogetherLemmas.{together_law_lem}
use Rattle.scan_core.proofs.together.together_law.Goals as goal

pub returns : goal.returns
returns c = together_law_lem
