-- The bits are the words' tests.
use Rattle.shift_search.proofs.JoiningLemmas.{lacking_few, lacking_full}
use Rattle.shift_search.proofs.joining.lacking.Goals as goal

pub returns-clause-few : goal.returns-clause-few
returns-clause-few c = lacking_few c.args.words c.fits-words.0

pub returns-clause-full : goal.returns-clause-full
returns-clause-full c = λ i below unset. lacking_full c.args.words i c.fits-words.0 below unset
