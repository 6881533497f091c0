use Rattle.std.proofs.Common.{◌-◌}
use Rattle.lit_cert.proofs.dividing.+places_hold.Given as goal

abbrev pub decreases-places_hold : goal.decreases-places_hold
decreases-places_hold l = l.high - l.low
