-- The lowest bit is the first newline, and the other bits are those after it.
use Rattle.std.proofs.Common.{arith, refl}
use Rattle.text_lines.proofs.NewlineMasks.{first-apart, first-here, first-seen, rest-newlines}
use Rattle.text_lines.proofs.cutting.split_by_mask.Goals as goal

pub split_at_newline-requires-clause-inside : goal.split_at_newline-requires-clause-inside
split_at_newline-requires-clause-inside c =
    let mask = c.requires.mask in
    omega (arith, mask.within, first-seen c.args.text.now c.args.newlines mask c.requires.some c.ranges.newlines.fits)

pub split_at_newline-requires-clause-newline : goal.split_at_newline-requires-clause-newline
split_at_newline-requires-clause-newline c = first-here c.args.text.now c.args.newlines c.requires.mask c.requires.some c.ranges.newlines.fits

pub split_at_newline-requires-clause-apart : goal.split_at_newline-requires-clause-apart
split_at_newline-requires-clause-apart c = first-apart c.args.text.now c.args.newlines c.requires.mask c.requires.some c.ranges.newlines.fits

pub returns-clause-newlines : goal.returns-clause-newlines
returns-clause-newlines c =
    rest-newlines c.args.text.now c.args.newlines c.requires.mask c.requires.some c.ranges.newlines.fits _ c.split_at_newline.result.1.now refl c.split_at_newline.ensures.after
