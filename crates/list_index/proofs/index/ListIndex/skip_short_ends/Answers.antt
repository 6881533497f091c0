-- What ends before the place is as short as it.
use Rattle.std.proofs.Common.{ℕ, length, ap, arith}
use Rattle.std.proofs.lemmas.Option.{slice_get_within}
use Rattle.list_index.proofs.ChainLemmas.{at_least}
use Rattle.list_index.proofs.SuffixLemmas.{literal_is}
use Rattle.list_index.proofs.index.ListIndex.skip_short_ends.Goals as goal

pub returns-clause-none : goal.returns-clause-none
returns-clause-none c text end after before here =
    let l = c.args.self.now in
    let place = here.0 in
    let occurs = here.1 in
    let least = at_least l c.shortest.result c.shortest.ensures.least place (slice_get_within l.texts place occurs.literal occurs.stands) in
    omega (arith, least, ap (length {A = ℕ}) (literal_is l text place end occurs), occurs.begins, after, before, c.max.ensures, c.saturating_sub.ensures)
