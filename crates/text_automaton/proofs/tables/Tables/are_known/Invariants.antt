use Rattle.std.proofs.Common.{ℕ, ◌<◌, ◌≤◌, length, slice_index}
use Rattle.text_automaton.proofs.tables.Tables.are_known.Given as goal

-- the states passed are known
abbrev pub invariant-loop-state : goal.invariant-loop-state
invariant-loop-state l = (state : ℕ) → state < l.state → (slice_index l.self.parents.items state < l.count) × (slice_index l.self.fails.items state < l.count)
    × (slice_index l.self.lows.items state ≤ slice_index l.self.highs.items state) × (slice_index l.self.highs.items state ≤ length l.self.outputs.items)
