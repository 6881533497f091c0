-- No pattern matches.
use Rattle.std.proofs.Common.{false, not, ap}
use Rattle.lit_base.specs.declared.fold.Fold.TheVariants.{No}
use Rattle.line_pick.proofs.Patterns.{none-matches}
use Rattle.line_pick.proofs.matcher.Matcher.each_line.Goals as goal

pub returns : goal.returns
returns c = λ line. ap not (none-matches No false line)
