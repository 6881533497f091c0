use Rattle.std.proofs.Common.{◌≡◌, ◌≤◌}
use Rattle.std.specs.Int.{bit_at}
use Rattle.nib_mask.specs.Tables.{value_at}
use Rattle.plan_view.specs.Sums.{sum_below}
use Rattle.plan_view.proofs.endings.kept.Given as goal

-- the bits of the bytes so far were added up
abbrev pub invariant-loop-byte : goal.invariant-loop-byte
invariant-loop-byte l = record {
  sum : l.count ≡ sum_below l.byte (λ byte. bit_at (value_at l.masks l.position byte) l.bucket);
  bound : l.count ≤ l.byte;
}
