-- It is the number that its text spells.
use Rattle.std.proofs.Common.{codes}
use Rattle.program_words.proofs.NumberLemmas.{number_read}
use Rattle.litplan.proofs.requests.number_of.Goals as goal

pub returns : goal.returns
returns c = number_read 64 c.args.found.now (codes "file") c.get_one.result c.get_one.ensures.none c.get_one.ensures.value
