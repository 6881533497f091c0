-- Which stops are refusals, which are want of memory, and what a stop says.
use Rattle.std.specs.Prelude.{◌≡◌, ℕ, Bool, true, false, List, ⊤, Option, Some, Result, Ok, Err}
use Rattle.plan_pack.specs.Messages.{message_on}
use Rattle.plan_pack.specs.declared.stop.Stop.{Stop}
use Rattle.plan_pack.specs.declared.stop.Stop.TheVariants.{OutOfMemory, Refused}

-- the stop is a refusal
abbrev pub is_refusal : Stop → Bool
is_refusal (Refused refusal) = true
is_refusal OutOfMemory = false

-- the stop is want of memory
abbrev pub is_starved : Stop → Bool
is_starved (Refused refusal) = false
is_starved OutOfMemory = true

-- a call stopped for want of memory
abbrev pub ran_out : {T : Type 0} → Result T Stop → Bool
ran_out (Ok _) = false
ran_out (Err stop) = is_starved stop

-- the stop is at this message, or memory ran out before
abbrev pub Explains : Stop → Option (List ℕ) → Type 0
Explains (Refused refusal) message = message ≡ Some (message_on refusal)
Explains OutOfMemory message = ⊤
