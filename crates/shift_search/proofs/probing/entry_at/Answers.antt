-- The entry of both bytes, whatever the case of letters, rules out the same ends as the entry without their case.
use Rattle.std.proofs.Common.{slice_index, ap, ◌∙◌}
use Rattle.list_index.proofs.SuffixLemmas.{are_bytes}
use Rattle.shift_search.proofs.ShiftOrLemmas.{ruled_by_pair}
use Rattle.shift_search.proofs.probing.entry_at.Goals as goal

pub returns : goal.returns
returns c = λ b are.
    let text = c.args.text.now in
    let entries = c.args.entries.now in
    ruled_by_pair b text entries c.args.at (slice_index entries c.from.result) (are_bytes text c.type_inv.text) c.requires.two c.requires.inside are (ap (slice_index entries) (c.from.ensures ∙ c.pair_before.ensures))
