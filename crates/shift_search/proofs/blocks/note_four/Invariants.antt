use Rattle.std.proofs.Common.{◌≡◌, ℕ, ◌+◌, ◌<◌, ◌≤◌, length, slice_index}
use Rattle.shift_search.specs.Blocks.{IsNotedUnlessFull}
use Rattle.shift_search.proofs.blocks.note_four.Given as goal

-- the words passed are noted, or have all their bits
abbrev pub invariant-loop-word : goal.invariant-loop-word
invariant-loop-word l = record {
  len : length l.numbers ≡ length l.fn.numbers;
  more : l.noted ≤ l.count;
  few : l.count + l.first ≤ l.noted + l.word;
  kept : (slot : ℕ) → slot < l.noted → slice_index l.numbers slot ≡ slice_index l.fn.numbers slot;
  inside : (slot : ℕ) → l.noted ≤ slot → slot < l.count → slice_index l.numbers slot < l.first + 4;
  noted : (i : ℕ) → l.first + i < l.word → IsNotedUnlessFull l.words l.numbers l.count (l.first + i);
}
