-- The scan stays one by the finder's plan.
use Rattle.std.proofs.Common.{◌≡◌}
use Rattle.bench_scan.proofs.scan_pieces_tuned.Given as goal

abbrev pub invariant-pieces : goal.invariant-pieces
invariant-pieces l = l.finder ≡ l.scanner.plan.literals
