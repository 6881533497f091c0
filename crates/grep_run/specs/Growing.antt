-- A block as its lines come: what a line adds, and what ends the block.
use Rattle.std.specs.Prelude.{◌≡◌, ℕ, ◌+◌, ◌-◌, ◌^◌, ◌||◌, Bool, not, List, [], ◌++◌, if◌then◌else◌, min, nat_lt, Result, Ok, Err, codes, decimal}
use Rattle.line_pick.specs.declared.fault.Fault.{Fault}
use Rattle.line_pick.specs.declared.fault.Fault.TheVariants.{OutOfMemory}
use Rattle.line_pick.specs.declared.sink.Next.{Next}
use Rattle.line_pick.specs.declared.sink.Next.TheVariants.{More, Stop}
use Rattle.grep_run.specs.declared.block.Block.{Block}
use Rattle.grep_run.specs.declared.options.GrepOptions.{GrepOptions}
use Rattle.grep_run.specs.Blocks.{prefix_of, written_line}

-- whether lines are written: unless names, counts or nothing are
abbrev pub are_shown : GrepOptions → Bool
are_shown o = not (o.quiet || (o.list || o.count))

-- a selected line adds itself, unless names, counts or nothing are written
abbrev pub added_line : GrepOptions → List ℕ → ℕ × List ℕ → List ℕ
added_line o name numbered = if o.quiet || (o.list || o.count) then [] else written_line o name numbered

-- the end of a block with a number of lines: under -l the name where there is a line, under -c the number
abbrev pub ending_of : GrepOptions → List ℕ → ℕ → List ℕ
ending_of o name count =
    if o.quiet then []
    else if o.list then (if nat_lt 0 count then name ++ codes "\n" else [])
    else if o.count then prefix_of o name ++ (decimal count ++ codes "\n")
    else []

-- under -q and -l no line is wanted after the first
abbrev pub next_of : GrepOptions → Next
next_of o = if o.quiet || o.list then Stop else More

-- the same block, whatever it holds
pub record IsSameBlock (old new : Block) : Type 0 where
  pub options : new.options.now ≡ old.options.now
  pub name : new.name.now ≡ old.name.now
  pub count : new.count ≡ old.count

-- a line comes to a block: it is counted and added
pub record AddsLine (old : Block) (number : ℕ) (line : List ℕ) (answer : Next) (new : Block) : Type 0 where
  pub text : new.text.items ≡ old.text.items ++ added_line old.options.now old.name.now (number, line)
  pub count : new.count ≡ min (old.count + 1) (2 ^ 64 - 1)
  pub next : answer ≡ next_of old.options.now
  pub options : new.options.now ≡ old.options.now
  pub name : new.name.now ≡ old.name.now

-- and only memory may fail
abbrev pub TakesLine : Block → ℕ → List ℕ → Result Next Fault → Block → Type 0
TakesLine old number line (Ok next) new = AddsLine old number line next new
TakesLine old number line (Err fault) new =
    (fault ≡ OutOfMemory) × ((new.options.now ≡ old.options.now) × (new.name.now ≡ old.name.now))
