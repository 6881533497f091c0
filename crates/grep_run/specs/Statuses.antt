-- The numbers of statuses. POSIX.1-2017 `grep`, EXIT STATUS.
use Rattle.std.specs.Prelude.{ℕ}
use Rattle.grep_run.specs.declared.status.Status.{Status}
use Rattle.grep_run.specs.declared.status.Status.TheVariants.{Selected, NoneSelected, Trouble}

-- the number that the program exits with
abbrev pub code_of : Status → ℕ
code_of Selected = 0
code_of NoneSelected = 1
code_of Trouble = 2
