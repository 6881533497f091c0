-- Where all places were tried, the one found is outside the pair if there are three.
use Rattle.std.proofs.Common.{length, subst, arith}
use Rattle.lane_filter.proofs.Ranks.{IsBesidePair, third_apart}
use Rattle.lane_filter.proofs.triple.rarest_beside.Goals as goal

pub returns-clause-apart : goal.returns-clause-apart
returns-clause-apart c = λ three.
    let pair = c.args.pair.now in
    let len = length c.args.literal.now in
    let start = c.saturating_sub-start.result in
    let all = subst (λ last. IsBesidePair pair len start last c.loop-place.found c.loop-place.least)
    (omega (arith, c.loop-place-test.false, c.loop-place.auto.place-end, c.loop-place.auto.place, c.saturating_sub-start.ensures)) c.loop-place.invariant.beside in
    third_apart pair len start c.loop-place.found c.loop-place.least all (omega (arith, three, c.saturating_sub-start.ensures))
