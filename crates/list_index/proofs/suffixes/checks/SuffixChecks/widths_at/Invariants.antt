use Rattle.std.proofs.Common.{◌≡◌, ℕ, ◌-◌, ◌<◌, ◌≤◌}
use Rattle.std.specs.Int.{bit_at}
use Rattle.list_index.proofs.CheckLemmas.{IsChecked}
use Rattle.list_index.proofs.suffixes.checks.SuffixChecks.widths_at.Given as goal

-- each width passed that a check has is in the answer
abbrev pub invariant-loop-width : goal.invariant-loop-width
invariant-loop-width l = (width : ℕ) → width < l.width → l.self.least ≤ width → IsChecked l.self l.word width width → bit_at l.short (width - 1) ≡ 1
