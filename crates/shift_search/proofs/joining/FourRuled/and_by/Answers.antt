-- The same, word by word.
use Rattle.std.proofs.Common.{◌+◌}
use Rattle.shift_search.proofs.ShiftOrLemmas.{word_fits, words_after, words_here, words_joined}
use Rattle.shift_search.proofs.joining.FourRuled.and_by.Goals as goal

pub returns : goal.returns
returns c = λ b text at ruled rules.
    let ahead = c.args.ahead in
    let entries = c.args.entries in
    record {
      here = words_joined b text at c.args.self.here c.moved_on.result c.joined.result c.joined.ensures ruled.here (words_here b text at ahead entries c.moved_on.result c.requires.near c.moved_on.ensures rules);
      after = words_joined b text (at + 8) c.args.self.after c.moved_back.result c.joined-2.result c.joined-2.ensures ruled.after (words_after b text at ahead entries c.moved_back.result c.requires.near (word_fits entries c.fits-entries.0 c.fits-entries.1) c.moved_back.ensures rules);
    }
