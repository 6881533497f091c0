-- Where nothing ends in the piece, nothing ends in it by the scan of the stream.
use Rattle.std.proofs.Common.{ℕ, ◌++◌, length, IsOk, subst}
use Rattle.lit_base.specs.NextEnds.{NoEndAfter}
use Rattle.scan_core.specs.Sessions.{Bound}
use Rattle.scan_core.proofs.stream.Stream.feed_prefix.Goals as goal

pub returns-clause-quiet : goal.returns-clause-quiet
returns-clause-quiet c =
    subst (λ (n : ℕ × Bound). NoEndAfter n.1.scan.plan.literals (n.1.scan.tail ++ c.args.piece.now) (length n.1.scan.tail) → IsOk c.feed.result) c.self.view_is c.feed.ensures.quiet
