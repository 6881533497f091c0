-- The refusals of this crate, and the numbers that messages give them.
use Rattle.std.specs.Prelude.{◌≡◌, ℕ, Option, Some, None, Result, Err, IsOkUnless}
use Rattle.lit_base.specs.declared.fault.Fault.{Fault}
use Rattle.lit_base.specs.declared.fault.Fault.TheVariants.{OutOfMemory, TooManyPatterns, LiteralTooLong, TooManyLiterals, ListTooLarge}

-- the number of a refusal, the same in every crate
abbrev pub number_of : Fault → ℕ
number_of OutOfMemory = 1
number_of TooManyPatterns = 2
number_of (LiteralTooLong place) = 3
number_of TooManyLiterals = 6
number_of ListTooLarge = 7

-- the refusal is the answer where there is one; where there is none, only want of memory is refused
abbrev pub RefusedBy : {T : Type 0} → Option Fault → Result T Fault → Type 0
RefusedBy (Some fault) result = result ≡ Err fault
RefusedBy None result = IsOkUnless result OutOfMemory
