-- The law is its lemma.
use Rattle.line_pick.proofs.Standing.{standing}
use Rattle.line_pick.proofs.matcher.standing_law.Goals as goal

pub returns : goal.returns
returns c = standing
