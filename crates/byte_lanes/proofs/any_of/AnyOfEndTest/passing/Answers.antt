use Rattle.byte_lanes.proofs.BlockLemmas.{either_set}
use Rattle.byte_lanes.proofs.any_of.AnyOfEndTest.passing.Goals as goal

pub returns : goal.returns
returns g c =
    either_set (g.A.EndTest.candidate c.args.self.now.one c.args.text.now) (g.B.EndTest.candidate c.args.self.now.other c.args.text.now) c.args.first _ _
    c.passing.ensures c.passing-2.ensures
