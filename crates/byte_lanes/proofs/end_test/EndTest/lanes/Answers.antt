use Rattle.byte_lanes.proofs.LaneLemmas.{lanes_of_splat}
use Rattle.byte_lanes.proofs.end_test.EndTest.lanes.Goals as goal

pub returns : goal.returns
returns g c = λ k low _. (lanes_of_splat 255).each k low
