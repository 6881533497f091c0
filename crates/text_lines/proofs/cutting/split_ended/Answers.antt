-- Up to the last newline nothing is open, and after it there is none.
use Rattle.std.proofs.Common.{◌+◌}
use Rattle.std.proofs.lemmas.Bool.{eqb-true}
use Rattle.text_lines.proofs.Newlines.{after-one, closed-at, last-cut, none_last, open_rest-nil}
use Rattle.text_lines.proofs.cutting.split_ended.Goals as goal

pub returns-in-Some : goal.returns-in-Some
returns-in-Some c =
    let text = c.args.text.now in
    let at = c.in-Some.at in
    let h = c.in-Some.ensures in
    last-cut text c.split_at.result.0.now c.split_at.result.1.now (at + 1) c.split_at.ensures.front c.split_at.ensures.back (closed-at text at h.0.high (eqb-true _ _ h.1)) (after-one text at h)

pub returns-in-None : goal.returns-in-None
returns-in-None c =
    let s = c.split_at-in-None in
    last-cut c.args.text.now s.result.0.now s.result.1.now 0 s.ensures.front s.ensures.back open_rest-nil (none_last c.args.text.now c.in-None.ensures)
