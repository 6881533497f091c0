use Rattle.std.proofs.Common.{◌≡◌, length}
use Rattle.scan_run.proofs.listening.accept_all.Given as goal

-- one thread, or none in its place, for each that was accepted
abbrev pub invariant-loop-accepted : goal.invariant-loop-accepted
invariant-loop-accepted g l = length l.threads.items ≡ l._accepted
