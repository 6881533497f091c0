-- The newlines of the steps so far are counted, and no lane is more than 4 for each of them.
use Rattle.std.proofs.Common.{◌≡◌, ◌≤◌, ◌+◌, ◌*◌, ◌-◌, eqb, count_by, take}
use Rattle.std.specs.Simd.Lanes.{Each1, sum_l}
use Rattle.text_lines.proofs.counting.newlines_in_stretch.Given as goal

abbrev pub invariant-loop-done : goal.invariant-loop-done
invariant-loop-done l = record {
  within : l.done ≤ 63;
  most : Each1 (λ lane. lane ≤ 4 * l.done) l.lanes;
  count : count_by (λ b. eqb b 10) (take l.fn.start l.text) + sum_l l.lanes ≡ count_by (λ b. eqb b 10) (take (l.fn.start + 256 * l.done) l.text);
}

abbrev pub decreases-loop-done : goal.decreases-loop-done
decreases-loop-done l = 63 - l.done
