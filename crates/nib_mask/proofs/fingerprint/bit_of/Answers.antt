-- One bit is set.
use Rattle.nib_mask.proofs.HalfLemmas.{sets-one}
use Rattle.nib_mask.proofs.fingerprint.bit_of.Goals as goal

pub returns : goal.returns
returns c = sets-one c.args.value c.requires
