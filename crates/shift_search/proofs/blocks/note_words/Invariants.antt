use Rattle.std.proofs.Common.{◌≡◌, ℕ, ◌+◌, ◌*◌, ◌<◌, ◌≤◌, length, slice_index}
use Rattle.shift_search.specs.Blocks.{IsNotedUnlessFull}
use Rattle.shift_search.specs.declared.blocks.TheConstants.{GROUPS}
use Rattle.shift_search.proofs.blocks.note_words.Given as goal

-- the words of the groups passed are noted, or have all their bits
abbrev pub invariant-loop-slot : goal.invariant-loop-slot
invariant-loop-slot l = record {
  len : length l.numbers ≡ 4 * GROUPS;
  few : l.noted ≤ 4 * l.slot;
  inside : (slot : ℕ) → slot < l.noted → slice_index l.numbers slot < 4 * GROUPS;
  noted : (slot i : ℕ) → slot < l.slot → i < 4 → IsNotedUnlessFull l.words l.numbers l.noted (4 * slice_index l.groups slot + i);
}
