-- Where the text has no newline up to the end of the prefix, the prefix has none.
use Rattle.std.proofs.Common.{subst, sym, length, arith}
use Rattle.lit_base.specs.Lines.{IsOnePiece}
use Rattle.text_lines.proofs.Newlines.{last-cut, one-shorter, open_rest-nil}
use Rattle.text_lines.proofs.cutting.split_prefix.Goals as goal

pub returns-then-prefix-first_newline : goal.returns-then-prefix-first_newline
returns-then-prefix-first_newline c =
    let prefix = c.args.prefix.now in
    let one = subst IsOnePiece (sym c.requires) (one-shorter c.args.text.now (length prefix) c.first_newline.result (omega arith) c.first_newline.ensures.apart) in
    last-cut prefix c.split_at.result.0.now c.split_at.result.1.now 0 c.split_at.ensures.front c.split_at.ensures.back open_rest-nil one
