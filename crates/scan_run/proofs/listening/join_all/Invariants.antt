use Rattle.std.proofs.Common.{◌≡◌, ◌+◌, length}
use Rattle.scan_run.proofs.listening.join_all.Given as goal

-- one ending for each thread that was waited for
abbrev pub invariant-loop-thread : goal.invariant-loop-thread
invariant-loop-thread g l = length l.endings.items + length l.thread-iterator ≡ length l.fn.threads.items
