use Rattle.std.proofs.Common.{◌≡◌, ◌*◌, ◌-◌, ◌≤◌, length, slice_index}
use Rattle.shift_search.specs.Probes.{IsPassed}
use Rattle.shift_search.specs.declared.blocks.TheConstants.{GROUPS}
use Rattle.shift_search.proofs.shift_or.ShiftOr.pass_blocks.Given as goal

-- nothing ends in the blocks passed, and the last probes rule out ends after them
abbrev pub invariant-quiet : goal.invariant-quiet
invariant-quiet g l = record {
  words : length l.words ≡ 4 * GROUPS;
  groups : length l.groups ≡ GROUPS;
  numbers : length l.numbers ≡ 4 * GROUPS;
  after : l.fn.from ≤ l.at;
  passed : IsPassed l.self l.text l.start l.at (slice_index l.before 3);
}

abbrev pub decreases-quiet : goal.decreases-quiet
decreases-quiet g l = length l.text - l.at
