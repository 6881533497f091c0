-- Word by word.
use Rattle.shift_search.proofs.ShiftOrLemmas.{words_of}
use Rattle.shift_search.proofs.probing.four_entries_at.Goals as goal

pub returns : goal.returns
returns c = λ b are. words_of b c.args.text.now c.args.at c.entry_at.result c.entry_at-2.result c.entry_at-3.result c.entry_at-4.result (c.entry_at.ensures b are) (c.entry_at-2.ensures b are) (c.entry_at-3.ensures b are) (c.entry_at-4.ensures b are)
