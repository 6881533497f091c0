-- The plan is the shared plan, and the scan's state is its progress's.
use Rattle.std.proofs.Common.{subst}
use Rattle.std.specs.Arc.{arc_value}
use Rattle.lit_plan.specs.Plans.{Plan}
use Rattle.flow_scan.specs.Scanners.{FeedsUpTo, Scanning, scanning}
use Rattle.flow_scan.proofs.stream.Stream.feed_until.Goals as goal

pub returns : goal.returns
returns c =
    let plan = arc_value c.self.inside.plan in
    let new = c.feed_by.new.self in
    let piece = c.args.piece.now in
    let old = c.args.out.now.items in
    let gained = c.feed_by.new.out.items in
    subst (λ (s : Scanning). FeedsUpTo s (scanning plan new) piece c.args.most old gained c.feed_by.result) c.self.view_is
    (subst (λ (p : Plan). FeedsUpTo (scanning p c.self.inside.progress) (scanning p new) piece c.args.most old gained c.feed_by.result) c.deref-compiled.ensures c.feed_by.ensures.fed)
