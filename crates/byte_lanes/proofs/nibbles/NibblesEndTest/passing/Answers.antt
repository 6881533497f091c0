use Rattle.std.proofs.Common.{◌-◌, arith}
use Rattle.nib_mask.specs.Halves.{widened}
use Rattle.byte_lanes.proofs.BlockLemmas.{marks_of_ends}
use Rattle.byte_lanes.proofs.nibbles.NibblesEndTest.passing.Goals as goal

pub returns : goal.returns
returns c =
    let s = c.args.self.now in
    marks_of_ends (widened s.masks.now) c.args.text.now (c.args.first - 3) c.args.first _ (omega arith) (omega arith) (c.passing.ensures (widened s.masks.now) s.of)
