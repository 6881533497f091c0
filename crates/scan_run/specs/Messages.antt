-- The messages on standard error.
use Rattle.std.specs.Prelude.{ℕ, List, ◌++◌, codes, decimal}

-- on want of memory
abbrev pub out_of_memory : List ℕ
out_of_memory = codes "scand: out of memory\n"

-- where no further connection could be accepted
abbrev pub accept_fault : List ℕ
accept_fault = codes "scand: accept fault\n"

-- on the port that the system chose
abbrev pub port_line : ℕ → List ℕ
port_line port = codes "scand: port " ++ (decimal port ++ codes "\n")
