-- The truncated list is the list as it was at first.
use Rattle.lit_base.proofs.Places.{cut_back}
use Rattle.lit_base.proofs.raw_list.append.Goals as goal

pub returns-in-Err-clause-err : goal.returns-in-Err-clause-err
returns-in-Err-clause-err c =
    cut_back (λ p. p.items) c.loop-pattern.list.items c.push_copy.new.list.items c.truncate.new.self.items c.len-before.result _
    c.truncate.ensures.items c.in-Err.ensures.err c.loop-pattern.invariant.kept
