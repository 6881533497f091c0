-- The patterns of pattern lists and pattern files, and why they are refused. POSIX.1-2017 `grep`, OPTIONS, -e and -f,
-- and OPERANDS, pattern_list.
use Rattle.std.specs.Prelude.{◌≡◌, ◌≢◌, ℕ, List, [], ◌∷◌, ◌++◌, length, flat_map, nat_lt, if◌then◌else◌, is_some, Option, Some, None, Result, MatchResult}
use Rattle.std.specs.Option.{option_map, option_or}
use Rattle.byte_io.specs.Sources.{Content, Sources}
use Rattle.lit_base.specs.Lines.{lines, pieces}
use Rattle.lit_base.specs.RawLists.{earlier, text_refusal}
use Rattle.lit_base.specs.declared.fault.Fault.{Fault}
use Rattle.lit_base.specs.declared.fault.Fault.TheVariants.{OutOfMemory, ListTooLarge}
use Rattle.lit_base.specs.declared.limits.TheConstants.{MAX_TEXT_LEN}
use Rattle.grep_run.specs.declared.options.GrepOptions.{GrepOptions}
use Rattle.grep_run.specs.Messages.{patterns_refused, unreadable}
use Rattle.grep_run.specs.Options.{files_of, lists_of}
use Rattle.grep_run.specs.Sources.{Input, found, name_of}

-- the patterns of all lists, in order
abbrev pub patterns_in : List (List ℕ) → List (List ℕ)
patterns_in lists = flat_map pieces lists

-- the refusal of the first list that is refused, each taken after the patterns before it
abbrev pub lists_refusal : List (List ℕ) → List (List ℕ) → Option Fault
lists_refusal before [] = None
lists_refusal before (list ∷ lists) =
    earlier (text_refusal before list (pieces list)) (lists_refusal (before ++ pieces list) lists)

-- the result is the refusal, or want of memory before it; without a refusal there is no fault but want of memory
abbrev pub RefusesAs : {T : Type 0} → Option Fault → Result T Fault → Type 0
RefusesAs refusal result =
    MatchResult result (λ _. refusal ≡ None) (λ fault. fault ≢ OutOfMemory → refusal ≡ Some fault)

-- the patterns of a pattern file: its lines
abbrev pub patterns_from : Option Content → List (List ℕ)
patterns_from None = []
patterns_from (Some c) = lines c.text

-- why a content gives no patterns, after the patterns before it: it has more bytes than its limit, it cannot be read,
-- or a pattern is refused
abbrev pub content_message : List (List ℕ) → List ℕ → Option Content → Option (List ℕ)
content_message before name None = Some (unreadable name)
content_message before name (Some c) =
    if nat_lt MAX_TEXT_LEN (length c.text) then Some (patterns_refused ListTooLarge)
    else if c.is_faulty then Some (unreadable name)
    else option_map patterns_refused (text_refusal before c.text (lines c.text))

-- why a pattern file gives none, after the patterns before it
abbrev pub file_message : List (List ℕ) → Input → Option (List ℕ)
file_message before file = content_message before (name_of file.ask) file.source

-- the message on the first file that gives no patterns, each taken after the patterns before it
abbrev pub files_message : List (List ℕ) → List Input → Option (List ℕ)
files_message before [] = None
files_message before (file ∷ files) =
    option_or (file_message before file) (files_message (before ++ patterns_from file.source) files)

-- the files up to that one
abbrev pub files_read : List (List ℕ) → List Input → List Input
files_read before [] = []
files_read before (file ∷ files) =
    file ∷ (if is_some (file_message before file) then [] else files_read (before ++ patterns_from file.source) files)

-- the pattern files of the options, as asks for them find them
abbrev pub pattern_files : GrepOptions → Sources → List Input
pattern_files o s = found (files_of o) s

-- all patterns: of the lists, and then of the files
abbrev pub all_patterns : GrepOptions → Sources → List (List ℕ)
all_patterns o s = patterns_in (lists_of o) ++ flat_map (λ file. patterns_from file.source) (pattern_files o s)

-- the message on the patterns: on the first list that is refused, else on the first file that gives none
abbrev pub patterns_message : GrepOptions → Sources → Option (List ℕ)
patterns_message o s =
    option_or (option_map patterns_refused (lists_refusal [] (lists_of o)))
    (files_message (patterns_in (lists_of o)) (pattern_files o s))

-- the pattern files that are opened: none where a list is refused, else the files up to the first that gives no
-- patterns
abbrev pub files_asked : GrepOptions → Sources → List Input
files_asked o s = if is_some (lists_refusal [] (lists_of o)) then [] else files_read (patterns_in (lists_of o)) (pattern_files o s)
