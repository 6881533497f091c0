-- What a contract sees of a `Picker`: its patterns and rule, the line that no newline has ended yet, and how far it has
-- come.
use Rattle.std.specs.Prelude.{ℕ, Bool, List, Option, None, Some, Result, Ok, Err}
use Rattle.lit_plan.specs.Plans.{Plan}
use Rattle.line_pick.specs.declared.fault.Fault.{Fault}
use Rattle.line_pick.specs.declared.matcher.LineRule.{LineRule}
use Rattle.line_pick.specs.declared.sink.Next.{Next}
use Rattle.line_pick.specs.declared.sink.Next.TheVariants.{More, Stop}
use Rattle.line_pick.specs.declared.state.State.{State}
use Rattle.line_pick.specs.declared.state.State.TheVariants.{Running, Stopped, Finished, Failed}

-- patterns, a rule, the bytes since the last newline, or what decides them where no bytes are seen, the numbers of
-- ended lines, if lines are numbered, and of bytes so far, and whether the search tunes itself
pub record Picking : Type 0 where
  pub plan : Option Plan
  pub has_empty : Bool
  pub rule : LineRule
  pub is_numbered : Bool
  pub has_bytes : Bool
  pub held : List ℕ
  pub lines : ℕ
  pub bytes : ℕ
  pub state : State
  pub tunes : Bool

-- the answer of a call, where no more lines are emitted
abbrev pub answer_in : State → Option (Result Next Fault)
answer_in Running = None
answer_in Stopped = Some (Ok Stop)
answer_in Finished = Some (Ok Stop)
answer_in (Failed fault) = Some (Err fault)

-- the state after a feed, by its answer
abbrev pub fed_state : Result Next Fault → State
fed_state (Ok More) = Running
fed_state (Ok Stop) = Stopped
fed_state (Err fault) = Failed fault

-- the state after the last line, by the answer
abbrev pub finished_state : Result Next Fault → State
finished_state (Ok More) = Finished
finished_state (Ok Stop) = Stopped
finished_state (Err fault) = Failed fault
