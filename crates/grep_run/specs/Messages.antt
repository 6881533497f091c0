-- The messages on standard error. POSIX.1-2017 `grep`, STDERR.
use Rattle.std.specs.Prelude.{ℕ, List, ◌++◌, codes, decimal}
use Rattle.lit_base.specs.declared.fault.Fault.{Fault}
use Rattle.lit_base.specs.Faults.{number_of}

-- on a file that cannot be opened or read
abbrev pub unreadable : List ℕ → List ℕ
unreadable name = codes "litgrep: " ++ (name ++ codes ": cannot be read\n")

-- on patterns that are refused
abbrev pub patterns_refused : Fault → List ℕ
patterns_refused fault = codes "litgrep: patterns refused (" ++ (decimal (number_of fault) ++ codes ")\n")

-- on want of memory
abbrev pub out_of_memory : List ℕ
out_of_memory = codes "litgrep: out of memory\n"
