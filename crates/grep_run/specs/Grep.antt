-- What grep writes and answers, for options and sources. POSIX.1-2017 `grep`: STDOUT, STDERR, EXIT STATUS and
-- CONSEQUENCES OF ERRORS.
use Rattle.std.specs.Prelude.{ℕ, ◌&&◌, Bool, true, false, List, [], ◌∷◌, ◌++◌, map, flat_map, if◌then◌else◌, Option, Some, None}
use Rattle.byte_io.specs.Sources.{Ask, Sources, after_all}
use Rattle.std.specs.List.{list_any}
use Rattle.grep_run.specs.declared.options.GrepOptions.{GrepOptions}
use Rattle.grep_run.specs.declared.status.Status.{Status}
use Rattle.grep_run.specs.declared.status.Status.TheVariants.{Selected, NoneSelected, Trouble}
use Rattle.grep_run.specs.Blocks.{block, has_selected, is_error, message, selects}
use Rattle.grep_run.specs.Options.{searched_of}
use Rattle.grep_run.specs.Patterns.{files_asked, patterns_message, all_patterns}
use Rattle.grep_run.specs.Sources.{Input, found}

-- what grep writes, whether a line was selected, and whether there was an error
pub record Answer : Type 0 where
  pub output : List ℕ
  pub messages : List ℕ
  pub has_selected : Bool
  pub has_error : Bool

-- under -q 0 where a line was selected, whatever the errors; else 2 at an error, else 0 where a line was selected and 1
-- where none was
abbrev pub status_where : Bool → Bool → Bool → Status
status_where quiet has_selected has_error =
    if quiet && has_selected then Selected
    else if has_error then Trouble
    else if has_selected then Selected
    else NoneSelected

-- the status of an answer
abbrev pub status_of : GrepOptions → Answer → Status
status_of o a = status_where o.quiet a.has_selected a.has_error

-- the inputs up to the first that passes, with it
abbrev pub up_to : (Input → Bool) → List Input → List Input
up_to passes [] = []
up_to passes (input ∷ inputs) = input ∷ (if passes input then [] else up_to passes inputs)

-- the inputs that are searched: under -q none after the first with a selected line
abbrev pub searched : GrepOptions → (List ℕ → Bool) → List Input → List Input
searched o test = up_to (λ input. o.quiet && has_selected test input)

-- of inputs: all blocks and all messages in order
abbrev pub answer_to : GrepOptions → (List ℕ → Bool) → List Input → Answer
answer_to o test inputs = record {
  output = flat_map (block o test) inputs;
  messages = flat_map (message o test) inputs;
  has_selected = list_any (has_selected test) inputs;
  has_error = list_any (is_error o test) inputs;
}

-- where the patterns are not had: a message alone
abbrev pub refused_with : List ℕ → Answer
refused_with text = record { output = []; messages = text; has_selected = false; has_error = true }

-- the asks for inputs, in order
abbrev pub asks : List Input → List Ask
asks inputs = map (λ input. input.ask) inputs

-- the sources after the pattern files
abbrev pub after_files : GrepOptions → Sources → Sources
after_files o s = after_all (asks (files_asked o s)) s

-- the inputs of a run whose patterns are had
abbrev pub inputs_of : GrepOptions → Sources → List Input
inputs_of o s = searched o (selects o (all_patterns o s)) (found (searched_of o) (after_files o s))

-- the answer, by the message on the patterns if there is one
abbrev pub answer_where : Option (List ℕ) → GrepOptions → Sources → Answer
answer_where (Some text) o s = refused_with text
answer_where None o s = answer_to o (selects o (all_patterns o s)) (inputs_of o s)

-- the answer of grep
abbrev pub grep : GrepOptions → Sources → Answer
grep o s = answer_where (patterns_message o s) o s

-- the asks of grep, in order, by the message on the patterns if there is one: pattern files, and the files to search
-- unless the patterns are refused
abbrev pub asks_where : Option (List ℕ) → GrepOptions → Sources → List Ask
asks_where (Some text) o s = asks (files_asked o s)
asks_where None o s = asks (files_asked o s) ++ asks (inputs_of o s)

-- the asks of grep, in order
abbrev pub asks_of : GrepOptions → Sources → List Ask
asks_of o s = asks_where (patterns_message o s) o s

-- the sources that it leaves
abbrev pub left_of : GrepOptions → Sources → Sources
left_of o s = after_all (asks_of o s) s
