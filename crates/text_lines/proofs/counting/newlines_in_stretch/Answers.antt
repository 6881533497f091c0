-- Four times 64 bytes more.
use Rattle.std.proofs.Common.{◌≡◌, ◌≤◌, ℕ, Bool, ◌+◌, ◌*◌, ap, eqb, count_by, take, arith, subst}
use Rattle.std.specs.Simd.Lanes.{Each1}
use Rattle.text_lines.proofs.Counts.{count_by-four, room-most}
use Rattle.text_lines.proofs.counting.newlines_in_stretch.Goals as goal

pub add_newlines-lanes-requires-in-loop-done : goal.add_newlines-lanes-requires-in-loop-done
add_newlines-lanes-requires-in-loop-done c =
    let most = 4 * c.loop-done.done in
    room-most (most + 1) c.add_newlines-lanes.result (omega arith) (c.add_newlines-lanes.ensures.most most c.loop-done.invariant.most)

pub add_newlines-lanes-requires-in-loop-done-2 : goal.add_newlines-lanes-requires-in-loop-done-2
add_newlines-lanes-requires-in-loop-done-2 c =
    let most = 4 * c.loop-done.done in
    room-most (most + 1 + 1) c.add_newlines-lanes-in-loop-done.result (omega arith)
    (c.add_newlines-lanes-in-loop-done.ensures.most (most + 1) (c.add_newlines-lanes.ensures.most most c.loop-done.invariant.most))

pub add_newlines-lanes-requires-in-loop-done-3 : goal.add_newlines-lanes-requires-in-loop-done-3
add_newlines-lanes-requires-in-loop-done-3 c =
    let most = 4 * c.loop-done.done in
    room-most (most + 1 + 1 + 1) c.add_newlines-lanes-in-loop-done-2.result (omega arith)
    (c.add_newlines-lanes-in-loop-done-2.ensures.most (most + 1 + 1) (c.add_newlines-lanes-in-loop-done.ensures.most (most + 1) (c.add_newlines-lanes.ensures.most most c.loop-done.invariant.most)))

pub loop-done-preserved : goal.loop-done-preserved
loop-done-preserved c =
    let most = 4 * c.loop-done.done in
    let four : most + 1 + 1 + 1 + 1 ≡ 4 * (c.loop-done.done + 1) = omega arith in
    let at = c.args.start + c.loop-done.done * 256 in
    let place : at ≡ c.args.start + 256 * c.loop-done.done = omega arith in
    let further : at + 256 ≡ c.args.start + 256 * (c.loop-done.done + 1) = omega arith in
    let test : ℕ → Bool = λ b. eqb b 10 in
    let text = c.args.text.now in
    let more = count_by-four test text at _ _ _ _ (ap (count_by test) c.load.ensures.value) (ap (count_by test) c.load-in-loop-done.ensures.value)
    (ap (count_by test) c.load-in-loop-done-2.ensures.value) (ap (count_by test) c.load-in-loop-done-3.ensures.value) in
    record {
      within = omega arith;
      most = subst (λ n. Each1 (λ lane. lane ≤ n) c.add_newlines-lanes-in-loop-done-3.result) four
          (c.add_newlines-lanes-in-loop-done-3.ensures.most (most + 1 + 1 + 1) (c.add_newlines-lanes-in-loop-done-2.ensures.most (most + 1 + 1)
          (c.add_newlines-lanes-in-loop-done.ensures.most (most + 1) (c.add_newlines-lanes.ensures.most most c.loop-done.invariant.most))));
      count = omega (
        arith,
        c.loop-done.invariant.count,
        c.add_newlines-lanes.ensures.sum,
        c.add_newlines-lanes-in-loop-done.ensures.sum,
        c.add_newlines-lanes-in-loop-done-2.ensures.sum,
        c.add_newlines-lanes-in-loop-done-3.ensures.sum,
        more,
        ap (λ k. count_by test (take k text)) place,
        ap (λ k. count_by test (take k text)) further,
      );
    }
