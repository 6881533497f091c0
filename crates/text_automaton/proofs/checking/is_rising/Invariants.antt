use Rattle.std.proofs.Common.{ℕ, ◌<◌, ◌+◌, slice_index}
use Rattle.text_automaton.proofs.checking.is_rising.Given as goal

-- the literals passed stand in order
abbrev pub invariant-loop-place : goal.invariant-loop-place
invariant-loop-place l = (k : ℕ) → k + 1 < l.place → slice_index l.output k < slice_index l.output (k + 1)
