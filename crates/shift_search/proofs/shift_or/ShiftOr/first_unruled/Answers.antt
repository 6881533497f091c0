-- Where no bit is set, no end remains.
use Rattle.std.proofs.Common.{arith}
use Rattle.shift_search.proofs.ShiftOrLemmas.{none_left}
use Rattle.shift_search.proofs.shift_or.ShiftOr.first_unruled.Goals as goal

pub returns-then-probes-eq0 : goal.returns-then-probes-eq0
returns-then-probes-eq0 c = λ start are. none_left c.args.self.now c.args.text.now start c.args.probes are (omega (arith, c.if-probes-eq0.true))
