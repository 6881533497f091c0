-- The literal is short at its length, and at each position after it.
use Rattle.std.proofs.Common.{arith}
use Rattle.shift_search.specs.ShiftOr.{IsShort}
use Rattle.shift_search.proofs.EntryLemmas.{more_cleared, more_ends}
use Rattle.shift_search.proofs.entries.without_ends.Goals as goal

pub loop-ahead-preserved : goal.loop-ahead-preserved
loop-ahead-preserved c = λ bit small. more_cleared (c.loop-ahead.invariant bit small) (c.without-found.ensures bit small)
    (more_ends IsShort c.args.literal.now c.args.bucket c.loop-ahead.ahead bit _ c.requires (λ same. (omega (arith, c.loop-ahead.auto.ahead), same), λ is. is.1))
