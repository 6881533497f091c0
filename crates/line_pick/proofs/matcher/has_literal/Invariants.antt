use Rattle.std.proofs.Common.{◌≡◌, ◌-◌, ◌≤◌, length}
use Rattle.lit_base.specs.NextEnds.{NoEndUpTo}
use Rattle.line_pick.proofs.matcher.has_literal.Given as goal

-- the finder stays, and nothing ends so far
abbrev pub invariant-spans : goal.invariant-spans
invariant-spans l = record {
  finder : l.finder ≡ l.fn.finder;
  within : l.place ≤ length l.line;
  none : NoEndUpTo l.compiled.literals l.line 0 l.place;
}

abbrev pub decreases-spans : goal.decreases-spans
decreases-spans l = length l.line - l.place
