-- What a call answers: the numbers of statuses, and the statuses of lists that are refused.
use Rattle.std.specs.Prelude.{◌≡◌, ◌⊎◌, ℕ, ℤ, pos}
use Rattle.lit_base.specs.declared.fault.Fault.{Fault}
use Rattle.lit_base.specs.declared.fault.Fault.TheVariants.{OutOfMemory, TooManyPatterns, LiteralTooLong, TooManyLiterals, ListTooLarge}
use Rattle.fiolargu.specs.declared.statuses.TheConstants as status

-- the status of a refusal, and the position of the pattern at fault, or 0 where no one pattern is
abbrev pub status_at : Fault → ℤ × ℕ
status_at OutOfMemory = (status.OUT_OF_MEMORY, 0)
status_at TooManyPatterns = (status.TOO_MANY_PATTERNS, 0)
status_at (LiteralTooLong place) = (status.LITERAL_TOO_LONG, place)
status_at TooManyLiterals = (status.TOO_MANY_LITERALS, 0)
status_at ListTooLarge = (status.LIST_TOO_LARGE, 0)

-- a status of a list that is refused, or of want of memory
abbrev pub IsListStatus : ℤ → Type 0
IsListStatus result =
    (result ≡ status.TOO_MANY_PATTERNS) ⊎ ((result ≡ status.LITERAL_TOO_LONG) ⊎ ((result ≡ status.LIST_TOO_LARGE)
    ⊎ ((result ≡ status.NO_LITERALS) ⊎ (result ≡ status.OUT_OF_MEMORY))))

-- the numbers, which C programs know
pub record StatusesLaw : Type 0 where
  pub ok : status.OK ≡ pos 0
  pub out_of_memory : status.OUT_OF_MEMORY ≡ pos 1
  pub too_many_patterns : status.TOO_MANY_PATTERNS ≡ pos 2
  pub literal_too_long : status.LITERAL_TOO_LONG ≡ pos 3
  pub no_literals : status.NO_LITERALS ≡ pos 5
  pub list_too_large : status.LIST_TOO_LARGE ≡ pos 7
  pub bad_plan_file : status.BAD_PLAN_FILE ≡ pos 10
  pub no_such_plan : status.NO_SUCH_PLAN ≡ pos 14
  pub stream_too_long : status.STREAM_TOO_LONG ≡ pos 20
  pub null_handle : status.NULL_HANDLE ≡ pos 21
  pub small_buffer : status.SMALL_BUFFER ≡ pos 22
  pub out_of_range : status.OUT_OF_RANGE ≡ pos 23
