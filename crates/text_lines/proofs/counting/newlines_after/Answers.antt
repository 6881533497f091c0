-- 64 bytes more.
use Rattle.std.proofs.Common.{◌≡◌, ◌≤◌, ◌+◌, ◌-◌, ◌/◌, ap, eqb, count_by, subst, arith}
use Rattle.std.specs.Simd.Lanes.{Each1}
use Rattle.text_lines.proofs.Counts.{count_by-more, room-most}
use Rattle.text_lines.proofs.counting.newlines_after.Goals as goal

pub add_newlines-lanes-requires : goal.add_newlines-lanes-requires
add_newlines-lanes-requires c =
    let steps = (c.loop-at.at - c.args.start) / 64 in
    room-most steps c.loop-at.lanes (omega (arith, c.requires.rest)) c.loop-at.invariant.most

pub loop-at-preserved : goal.loop-at-preserved
loop-at-preserved c =
    let steps = (c.loop-at.at - c.args.start) / 64 in
    let one : steps + 1 ≡ ((c.loop-at.at + 64) - c.args.start) / 64 = omega (arith, c.loop-at.invariant.begun) in
    record {
      begun = omega (arith, c.loop-at.invariant.begun);
      within = omega arith;
      most = subst (λ n. Each1 (λ lane. lane ≤ n) c.add_newlines-lanes.result) one (c.add_newlines-lanes.ensures.most steps c.loop-at.invariant.most);
      count = omega (arith, c.loop-at.invariant.count, c.add_newlines-lanes.ensures.sum, ap (count_by (λ b. eqb b 10)) c.load.ensures.value, count_by-more (λ b. eqb b 10) c.args.text.now c.loop-at.at 64);
    }
