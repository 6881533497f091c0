-- The ends after `from` are pending by the probes of the block, and nothing ends before it.
use Rattle.std.proofs.Common.{arith}
use Rattle.factor_search.proofs.factor_ends.Pending.next_block.Goals as goal

pub returns-clause-state : goal.returns-clause-state
returns-clause-state c =
    let block = c.next_pending-seen.ensures in
    c.but_first-rest.ensures.state c.args.factors.now c.args.text.now c.args.from
    (record {
      pending = λ place end occurs later after before. block.pending c.args.from c.requires.state place end occurs later after (omega (arith, before, c.min.ensures));
      inside = omega (arith, c.min.ensures, block.inside);
      few = omega (arith, c.min.ensures);
    })
    (omega (arith, c.saturating_sub.ensures))

pub returns-clause-none : goal.returns-clause-none
returns-clause-none c = λ end later within here.
    c.next_pending-seen.ensures.none c.args.from c.requires.ahead c.requires.state end later (omega (arith, later, within, c.but_first-rest.ensures.seen, c.saturating_sub.ensures)) here
