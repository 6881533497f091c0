-- What one input gives: its block of output, its message, whether a line is selected, and whether it is an error.
-- POSIX.1-2017 `grep`, OPTIONS, STDOUT, CONSEQUENCES OF ERRORS.
use Rattle.std.specs.Prelude.{ℕ, ◌&&◌, ◌||◌, not, Bool, true, List, [], ◌++◌, length, flat_map, nat_lt, if◌then◌else◌, Option, Some, None, codes, decimal}
use Rattle.byte_io.specs.Sources.{Content}
use Rattle.lit_base.specs.Lines.{ended_lines, lines}
use Rattle.lit_base.specs.Selected.{is_selected}
use Rattle.line_pick.specs.Emitting.{numbered}
use Rattle.grep_run.specs.declared.options.GrepOptions.{GrepOptions}
use Rattle.grep_run.specs.Messages.{unreadable}
use Rattle.grep_run.specs.Sources.{Input, name_of}

-- the lines of a content: before a fault those alone that a newline ended
abbrev pub lines_of : Content → List (List ℕ)
lines_of c = if c.is_faulty then ended_lines c.text else lines c.text

-- which lines are selected: those that match one of the patterns, or under -v the others
abbrev pub selects : GrepOptions → List (List ℕ) → List ℕ → Bool
selects o = is_selected o.fold o.whole o.invert

-- of an input the selected lines with their numbers, which start at 1; none where it cannot be opened
abbrev pub selected_in : (List ℕ → Bool) → Option Content → List (ℕ × List ℕ)
selected_in test None = []
selected_in test (Some c) = numbered test 0 (lines_of c)

-- whether there is a selected line
abbrev pub has_any : List (ℕ × List ℕ) → Bool
has_any selected = nat_lt 0 (length selected)

-- the prefix: the name where there is more than one operand
abbrev pub prefix_of : GrepOptions → List ℕ → List ℕ
prefix_of o name = if nat_lt 1 (length o.operands.items) then name ++ codes ":" else []

-- a line as it is written: the prefix, under -n its number, the line and a newline
abbrev pub written_line : GrepOptions → List ℕ → ℕ × List ℕ → List ℕ
written_line o name numbered =
    prefix_of o name ++ ((if o.number then decimal numbered.0 ++ codes ":" else []) ++ (numbered.1 ++ codes "\n"))

-- the block of selected lines: under -q none, else under -l the name if there is one, else under -c their number, else
-- the lines
abbrev pub block_of : GrepOptions → List ℕ → List (ℕ × List ℕ) → List ℕ
block_of o name selected =
    if o.quiet then []
    else if o.list then (if has_any selected then name ++ codes "\n" else [])
    else if o.count then prefix_of o name ++ (decimal (length selected) ++ codes "\n")
    else flat_map (written_line o name) selected

-- the block by the content of an input; an input that cannot be opened has none
abbrev pub block_in : GrepOptions → (List ℕ → Bool) → List ℕ → Option Content → List ℕ
block_in o test name None = []
block_in o test name (Some c) = block_of o name (numbered test 0 (lines_of c))

-- the block of an input
abbrev pub block : GrepOptions → (List ℕ → Bool) → Input → List ℕ
block o test input = block_in o test (name_of input.ask) input.source

-- whether a line of an input is selected
abbrev pub has_selected : (List ℕ → Bool) → Input → Bool
has_selected test input = has_any (selected_in test input.source)

-- whether a content is an error: it cannot be opened, or it ends in a fault. With -q or -l a fault after a selected
-- line is not met
abbrev pub is_trouble : GrepOptions → (List ℕ → Bool) → Option Content → Bool
is_trouble o test None = true
is_trouble o test (Some c) = c.is_faulty && not ((o.quiet || o.list) && has_any (numbered test 0 (lines_of c)))

-- whether an input is an error
abbrev pub is_error : GrepOptions → (List ℕ → Bool) → Input → Bool
is_error o test input = is_trouble o test input.source

-- the message by the content of an input; -s drops it
abbrev pub message_in : GrepOptions → (List ℕ → Bool) → List ℕ → Option Content → List ℕ
message_in o test name source = if is_trouble o test source && not o.silent then unreadable name else []

-- the message on an input
abbrev pub message : GrepOptions → (List ℕ → Bool) → Input → List ℕ
message o test input = message_in o test (name_of input.ask) input.source
