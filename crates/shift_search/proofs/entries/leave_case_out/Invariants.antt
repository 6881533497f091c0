use Rattle.std.proofs.Common.{◌≡◌, ℕ, ◌<◌, ◌≤◌, bit_or, slice_index, vec_len}
use Rattle.shift_search.specs.declared.entries.TheConstants.{ENTRIES}
use Rattle.shift_search.proofs.entries.leave_case_out.Given as goal

-- the entries passed are those without case, which stand no earlier, and the others are unchanged
abbrev pub invariant-loop-number : goal.invariant-loop-number
invariant-loop-number l = record {
  len : vec_len l.entries ≡ ENTRIES;
  alike : (other : ℕ) → other < l.number → slice_index l.entries.items other ≡ slice_index l.fn.entries.items (bit_or other l.case_bits);
  kept : (other : ℕ) → l.number ≤ other → slice_index l.entries.items other ≡ slice_index l.fn.entries.items other;
}
