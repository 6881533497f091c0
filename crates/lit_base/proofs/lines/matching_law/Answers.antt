-- The law is the lemma.
use Rattle.lit_base.proofs.MatchLemmas.{matching}
use Rattle.lit_base.proofs.lines.matching_law.Goals as goal

pub returns : goal.returns
returns c = matching
