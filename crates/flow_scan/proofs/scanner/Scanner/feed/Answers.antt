-- The whole piece is fed, since no list holds `usize::MAX` hits.
use Rattle.std.proofs.Common.{◌≡◌, ◌<◌, length, take, ap, ◌∙◌, subst, arith}
use Rattle.flow_scan.specs.Scanners.{fed}
use Rattle.flow_scan.specs.Tails.{GainsHits}
use Rattle.flow_scan.proofs.Stops.{all_fed}
use Rattle.flow_scan.proofs.scanner.Scanner.feed.Goals as goal
use Rattle.flow_scan.proofs.scanner.Scanner.feed.Goals.{In_ok-feed_until}

whole : (c : In_ok-feed_until) → take c.in_ok-feed_until.field-0 c.args.piece.now ≡ c.args.piece.now
whole c =
    let s = c.args.self.now in
    let new = c.feed_until.new.out in
    let small : length new.items < 18446744073709551615 = omega (arith, new.ok.0, new.ok.1, new.small) in
    all_fed s.plan.literals s.tail c.args.piece.now s.place _ c.in_ok-feed_until.field-0 c.args.out.now.items new.items small c.in_ok-feed_until.ensures.fed.hits

pub returns-clause-ok : goal.returns-clause-ok
returns-clause-ok c = c.in_ok-feed_until.ensures.fed.ok ∙ ap (fed c.args.self.now) (whole c)

pub returns-clause-hits : goal.returns-clause-hits
returns-clause-hits c =
    let s = c.args.self.now in
    subst (λ p. GainsHits s.plan.literals s.tail p s.place c.args.out.now.items c.feed_until.new.out.items) (whole c) c.in_ok-feed_until.ensures.fed.hits.gained
