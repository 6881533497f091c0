-- The numbers of statuses.
use Rattle.std.specs.Prelude.{ℕ}
use Rattle.plan_run.specs.declared.status.Status.{Status}
use Rattle.plan_run.specs.declared.status.Status.TheVariants.{Done, NotCertified, Trouble, Wrong}

-- the number that the program exits with
abbrev pub code_of : Status → ℕ
code_of Done = 0
code_of NotCertified = 1
code_of Wrong = 1
code_of Trouble = 2
