-- One probe after the other, first at every second position.
use Rattle.shift_search.specs.ShiftOr.{AreEntriesOf, AreRuled, Bucketing}
use Rattle.shift_search.proofs.probing.four_probes.Given.{Over}
use Rattle.shift_search.proofs.probing.four_probes.Goals as goal
use Rattle.shift_search.proofs.probing.four_probes.Goals.{After-and_by-even}

even : (g : Over) (c : After-and_by-even g) (b : Bucketing) → AreEntriesOf b.literals b.buckets c.args.entries.now → AreRuled b c.args.text.now c.args.at c.and_by-even.result
even g c b are =
    let text = c.args.text.now in
    let at = c.args.at in
    let first = c.by-first.ensures b text at (c.four_entries_at.ensures b are) in
    let second = c.and_by-second.ensures b text at first (c.four_entries_at-2.ensures b are) in
    let third = c.and_by-third.ensures b text at second (c.four_entries_at-3.ensures b are) in
    c.and_by-even.ensures b text at third (c.four_entries_at-4.ensures b are)

pub returns-then-this-ne1 : goal.returns-then-this-ne1
returns-then-this-ne1 g c = even g (goal.at.returns-then-this-ne1 g c).After-and_by-even

pub returns : goal.returns
returns g c = λ b are.
    let text = c.args.text.now in
    let at = c.args.at in
    let first = c.and_by-fifth.ensures b text at (even g (goal.at.returns g c).After-and_by-even b are) (c.four_entries_at-5.ensures b are) in
    let second = c.and_by-sixth.ensures b text at first (c.four_entries_at-6.ensures b are) in
    let third = c.and_by-seventh.ensures b text at second (c.four_entries_at-7.ensures b are) in
    c.and_by.ensures b text at third (c.four_entries_at-8.ensures b are)
