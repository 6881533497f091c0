-- A list in normal form is in order.
use Rattle.std.proofs.Common.{subst}
use Rattle.lit_base.specs.Literals.{IsNormal}
use Rattle.lit_base.proofs.LengthLemmas.{lengths_rise}
use Rattle.lit_base.proofs.lit_list.LitList.len.Goals as goal

pub returns-clause-rising : goal.returns-clause-rising
returns-clause-rising c = lengths_rise c.args.self.now (subst IsNormal c.self.view_is c.self.invariant)
