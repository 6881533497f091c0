-- Probes that begin seven positions before a position find the pending ends after it.
use Rattle.std.proofs.Common.{ℕ, ◌+◌, sym, subst}
use Rattle.factor_search.specs.PendingEnds.{ArePending}
use Rattle.factor_search.proofs.PendingSteps.{none_pending}
use Rattle.factor_search.proofs.factor_ends.Pending.after.Goals as goal

pub next_block-requires-clause-state : goal.next_block-requires-clause-state
next_block-requires-clause-state c =
    subst (λ (s : ℕ). ArePending c.args.factors.now c.args.text.now c.args.from s (s + 1) 0) (sym c.saturating_sub-start.ensures) (none_pending c.args.factors.now c.args.text.now c.args.from c.within_law.ensures)
