use Rattle.std.proofs.Common.{◌≡◌, ◌-◌, ℕ, length, subst, arith}
use Rattle.scan_wire.specs.declared.message.TheConstants.{MAX_HITS}
use Rattle.scan_core.specs.Prefixes.{FeedsPrefix}
use Rattle.scan_run.proofs.feeding.feed_on.Goals as goal

pub returns-clause-ok : goal.returns-clause-ok
returns-clause-ok g c =
    let hits = c.args.hits.now.items in
    let most : MAX_HITS - c.len-most.result ≡ MAX_HITS - length hits = omega (arith, c.len-most.ensures, c.args.hits.now.ok) in
    let fed = subst (λ (most : ℕ). FeedsPrefix c.args.session.now c.args.stream c.args.piece.now most c.in-Ok.count hits c.feed_prefix.new.out.items c.feed_prefix.new.self) most c.in-Ok.ensures.ok in
    record {
      gained = c.feed_prefix.new.out.items;
      fed = fed;
      held = omega (arith, fed.stops.few, c.requires.few);
      few = c.in_ok-send_full.ensures.few;
      sent_full = c.in_ok-send_full.ensures.ok;
    }
