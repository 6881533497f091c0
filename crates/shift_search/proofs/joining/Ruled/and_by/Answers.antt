-- The entry is shifted by as many positions, and combined with the earlier words.
use Rattle.std.proofs.Common.{◌+◌, ◌-◌, ◌*◌, ◌/◌, ◌%◌, ◌^◌, arith}
use Rattle.shift_search.proofs.ShiftOrLemmas.{ruled_after, ruled_here, ruled_joined}
use Rattle.shift_search.proofs.joining.Ruled.and_by.Goals as goal

pub returns : goal.returns
returns c = λ b text at ruled rules.
    let ahead = c.args.ahead in
    let entry = c.args.entry in
    record {
      here = ruled_joined b text at c.args.self.here (entry * 2 ^ (8 * ahead) % 2 ^ 64) ruled.here (ruled_here b text at ahead entry c.requires.near rules);
      after = ruled_joined b text (at + 8) c.args.self.after (entry / 2 ^ (64 - 8 * ahead)) ruled.after (ruled_after b text at ahead entry c.requires.near (omega (arith, c.ranges.entry.fits)) rules);
    }
