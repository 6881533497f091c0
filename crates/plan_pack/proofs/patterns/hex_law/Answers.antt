-- The law of decoding is the law of lines.
use Rattle.plan_pack.proofs.HexLemmas.{hex-law}
use Rattle.plan_pack.proofs.patterns.hex_law.Goals as goal

pub returns : goal.returns
returns c = hex-law
