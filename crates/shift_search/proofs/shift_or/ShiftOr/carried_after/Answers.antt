-- The probes there rule it out.
use Rattle.shift_search.proofs.shift_or.ShiftOr.carried_after.Goals as goal

pub returns-in-One : goal.returns-in-One
returns-in-One c = (c.probes_from.ensures c.args.self.now c.in-Some.ensures).after

pub returns-in-Two : goal.returns-in-Two
returns-in-Two c = (c.probes_from-in-Two.ensures c.args.self.now c.in-Some.ensures).after
