-- The scan's state is its progress's.
use Rattle.std.proofs.Common.{subst}
use Rattle.flow_scan.specs.Scanners.{FeedsUpTo, Scanning, scanning}
use Rattle.flow_scan.proofs.scanner.Scanner.feed_until.Goals as goal

pub returns-clause-fed : goal.returns-clause-fed
returns-clause-fed g c =
    subst (λ (s : Scanning). FeedsUpTo s (scanning c.self.inside.compiled.now c.feed_by.new.self) c.args.piece.now c.args.most c.args.out.now.items c.feed_by.new.out.items c.feed_by.result) c.self.view_is c.feed_by.ensures.fed
