-- The law is its lemmas.
use Rattle.std.proofs.lemmas.List.Splits.{join_with_byte-slice_split}
use Rattle.lit_base.proofs.LineLemmas.{lines-nil, lines-ended, lines-last, pieces-joined, pieces-apart}
use Rattle.lit_base.proofs.lines.lines_law.Goals as goal

pub returns : goal.returns
returns c = record {
  apart = pieces-apart;
  joined = join_with_byte-slice_split 10;
  only = pieces-joined;
  ended = lines-ended;
  last = lines-last;
  none = lines-nil;
}
