-- Without a plan and the null pattern no line matches.
use Rattle.std.proofs.Common.{ap}
use Rattle.std.specs.Option.{option_copied}
use Rattle.line_pick.proofs.AroundHitLines.{picks-none}
use Rattle.line_pick.proofs.matcher.LineSearch.selects.Goals as goal

pub returns-in-None-clause-value : goal.returns-in-None-clause-value
returns-in-None-clause-value c = picks-none c.args.self.now.matcher c.args.line.now c.if-matcher-2.false (ap option_copied c.in-None.is)
