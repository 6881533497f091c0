-- Each side has fewer places.
use Rattle.std.proofs.Common.{◌-◌}
use Rattle.run_planner.proofs.split_row.+fill_row.Given as goal

abbrev pub decreases-fill_row : goal.decreases-fill_row
decreases-fill_row g l = l.high - l.low
