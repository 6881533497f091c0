-- One probe after the other, first at every second position.
use Rattle.shift_search.specs.ShiftOr.{AreEntriesOf, IsRuled, Bucketing}
use Rattle.shift_search.proofs.probing.probes_from.Given.{Over}
use Rattle.shift_search.proofs.probing.probes_from.Goals as goal
use Rattle.shift_search.proofs.probing.probes_from.Goals.{After-and_by-even}

even : (g : Over) (c : After-and_by-even g) (b : Bucketing) → AreEntriesOf b.literals b.buckets c.args.entries.now → IsRuled b c.args.text.now c.args.at c.and_by-even.result
even g c b are =
    let text = c.args.text.now in
    let at = c.args.at in
    let first = c.by-first.ensures b text at (c.entry_at.ensures b are) in
    let second = c.and_by-second.ensures b text at first (c.entry_at-2.ensures b are) in
    let third = c.and_by-third.ensures b text at second (c.entry_at-3.ensures b are) in
    c.and_by-even.ensures b text at third (c.entry_at-4.ensures b are)

pub returns-then-this-ne1 : goal.returns-then-this-ne1
returns-then-this-ne1 g c = even g (goal.at.returns-then-this-ne1 g c).After-and_by-even

pub returns : goal.returns
returns g c = λ b are.
    let text = c.args.text.now in
    let at = c.args.at in
    let first = c.and_by-fifth.ensures b text at (even g (goal.at.returns g c).After-and_by-even b are) (c.entry_at-5.ensures b are) in
    let second = c.and_by-sixth.ensures b text at first (c.entry_at-6.ensures b are) in
    let third = c.and_by-seventh.ensures b text at second (c.entry_at-7.ensures b are) in
    c.and_by.ensures b text at third (c.entry_at-8.ensures b are)
