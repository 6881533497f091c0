use Rattle.std.proofs.Common.{◌≡◌, ◌*◌, ◌≤◌, length, slice_index}
use Rattle.shift_search.specs.Blocks.{IsBlock}
use Rattle.shift_search.specs.ShiftOr.{AreEntriesOf, Bucketing, RulesOut}
use Rattle.shift_search.specs.declared.blocks.TheConstants.{GROUPS}
use Rattle.shift_search.proofs.blocks.probe_block.Given as goal

-- the groups passed are a block, and the last probes rule out ends after them
abbrev pub invariant-loop-group : goal.invariant-loop-group
invariant-loop-group g l = record {
  words : length l.words ≡ 4 * GROUPS;
  groups : length l.groups ≡ GROUPS;
  few : l.count ≤ l.group;
  block : (b : Bucketing) → AreEntriesOf b.literals b.buckets l.entries → RulesOut b l.text l.at (slice_index l.fn.before 3)
      → IsBlock b l.text l.at l.group l.words l.groups l.count (slice_index l.after 3);
}
