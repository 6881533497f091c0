use Rattle.std.proofs.Common.{◌≡◌}
use Rattle.plan_view.specs.Repeats.{repeats}
use Rattle.plan_view.proofs.repeats.repeats.Given as goal

-- the repeats among the patterns so far were found
abbrev pub invariant-loop-later : goal.invariant-loop-later
invariant-loop-later l = l.found.items ≡ repeats l.places l.later
