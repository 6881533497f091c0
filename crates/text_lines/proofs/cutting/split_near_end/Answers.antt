-- The cut is after the newline that was seen.
use Rattle.std.proofs.Common.{◌≡◌, [], ◌+◌, ◌-◌, length, take, subst, arith}
use Rattle.lit_base.specs.Lines.{open_rest}
use Rattle.text_lines.proofs.Newlines.{closed-at, last-cut}
use Rattle.text_lines.proofs.cutting.split_near_end.Goals as goal

pub returns-then-after-lt-LANES : goal.returns-then-after-lt-LANES
returns-then-after-lt-LANES c =
    let text = c.args.text.now in
    let at = length text - c.bytes_after_newline-after.result in
    let after : (at - 1) + 1 ≡ at = omega arith in
    last-cut text c.split_at.result.0.now c.split_at.result.1.now at c.split_at.ensures.front c.split_at.ensures.back
    (subst (λ n. open_rest (take n text) ≡ []) after (closed-at text (at - 1) (omega arith) (c.bytes_after_newline-after.ensures.found c.if-after-lt-LANES.true))) c.bytes_after_newline-after.ensures.apart
