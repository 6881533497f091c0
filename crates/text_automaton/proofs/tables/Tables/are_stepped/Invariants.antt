use Rattle.std.proofs.Common.{ℕ, ◌<◌, slice_index}
use Rattle.text_automaton.proofs.tables.Tables.are_stepped.Given as goal

-- the places passed lead to states
abbrev pub invariant-loop-place : goal.invariant-loop-place
invariant-loop-place l = (i : ℕ) → i < l.place → slice_index l.self.rows.items i < l.count
