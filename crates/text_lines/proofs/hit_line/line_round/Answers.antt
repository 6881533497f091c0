-- The line stands round the first end of a literal.
use Rattle.std.proofs.Common.{◌-◌, ap, length, arith}
use Rattle.std.proofs.lemmas.List.{length-drop}
use Rattle.text_lines.proofs.Newlines.{prefix-whole}
use Rattle.text_lines.proofs.HitLineLemmas.{first-hit, line-room, no-hit-open}
use Rattle.text_lines.proofs.hit_line.line_round.Goals as goal

pub split_prefix-requires : goal.split_prefix-requires
split_prefix-requires c = prefix-whole c.args.text.now c.split_at.result.0.now (c.args.end - 1) c.split_at.ensures.front

pub returns-in_err-ending : goal.returns-in_err-ending
returns-in_err-ending c = λ l normal apart next.
    absurd (no-hit-open l normal c.args.text.now c.split_at.result.0.now c.split_at.result.1.now c.split_prefix.result.0.now c.split_prefix.result.1.now c.args.end
    next c.split_at.ensures.front c.split_at.ensures.back c.split_prefix.ensures c.in_err-ending.ensures c.requires.closed)

pub overflow_add-head : goal.overflow_add-head
overflow_add-head c =
    let room = line-room c.args.text.now c.split_at.result.0.now c.split_at.result.1.now c.split_prefix.result.0.now c.split_prefix.result.1.now c.in_ok-ending.ending.now c.in_ok-ending.after.now (c.args.end - 1)
    c.split_at.ensures.front c.split_at.ensures.back c.split_prefix.ensures c.in_ok-ending.ensures in
    grind (arith, room)

pub split_at-requires-3 : goal.split_at-requires-3
split_at-requires-3 c =
    let room = line-room c.args.text.now c.split_at.result.0.now c.split_at.result.1.now c.split_prefix.result.0.now c.split_prefix.result.1.now c.in_ok-ending.ending.now c.in_ok-ending.after.now (c.args.end - 1)
    c.split_at.ensures.front c.split_at.ensures.back c.split_prefix.ensures c.in_ok-ending.ensures in
    omega (arith, room, ap length c.split_at-2.ensures.back, length-drop (length c.split_prefix.result.0.now) c.args.text.now)

pub returns : goal.returns
returns c = λ l normal apart next.
    first-hit l normal apart c.args.text.now c.split_at.result.0.now c.split_at.result.1.now c.split_prefix.result.0.now c.split_prefix.result.1.now c.in_ok-ending.ending.now c.split_at-2.result.1.now c.split_at-3.result.0.now c.in_ok-ending.after.now c.args.end
    next c.split_at.ensures.front c.split_at.ensures.back c.split_prefix.ensures c.in_ok-ending.ensures c.split_at-2.ensures.back c.split_at-3.ensures.front
