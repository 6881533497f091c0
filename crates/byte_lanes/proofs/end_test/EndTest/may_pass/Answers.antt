-- Of 128 ends at most one vector of four has the lane of one.
use Rattle.byte_lanes.proofs.BlockLemmas.{set_in_four}
use Rattle.byte_lanes.proofs.end_test.EndTest.may_pass.Goals as goal

pub returns : goal.returns
returns g c =
    let seen = c.any_lane_of.ensures in
    set_in_four (g.Self.EndTest.candidate c.args.self.now c.args.text.now) _ c.args.first _ _ _ _
    c.lanes.ensures c.lanes-2.ensures c.lanes-3.ensures c.lanes-4.ensures seen.first seen.second seen.third seen.fourth
