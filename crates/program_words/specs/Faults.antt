-- The refusals of words, and their numbers.
use Rattle.std.specs.Prelude.{ℕ}
use Rattle.program_words.specs.declared.fault.Fault.{Fault}
use Rattle.program_words.specs.declared.fault.Fault.TheVariants.{OutOfMemory, Usage}

-- the number of a refusal, the same in every crate
abbrev pub number_of : Fault → ℕ
number_of OutOfMemory = 1
number_of (Usage text) = 19
