-- The options in clap's matches. POSIX.1-2017 `grep`, OPTIONS and OPERANDS.
use Rattle.std.specs.Prelude.{◌≡◌, ℕ, ◌||◌, Bool, true, false, List, map, length, take, drop, nat_lt, if◌then◌else◌, codes, string_bytes}
use Rattle.clap.specs.declared.parser.matches.ArgMatches.{ArgMatches}
use Rattle.lit_base.specs.declared.fold.Fold.TheVariants.{No, Ascii}
use Rattle.grep_run.specs.declared.options.GrepOptions.{GrepOptions}
use Rattle.program_words.specs.Matches.{is_used, texts_of}
use Rattle.program_words.specs.declared.fault.Fault.{Fault}
use Rattle.program_words.specs.declared.fault.Fault.TheVariants.{Usage, OutOfMemory}

-- -e or -f was used, so that no operand is a pattern list
abbrev pub names_patterns : ArgMatches → Bool
names_patterns m = nat_lt 0 (length (texts_of m (codes "lists")))
    || nat_lt 0 (length (texts_of m (codes "files")))

-- a pattern is given: by -e, by -f or by an operand
abbrev pub gives_pattern : ArgMatches → Bool
gives_pattern m = names_patterns m || nat_lt 0 (length (texts_of m (codes "operands")))

-- the pattern lists: the texts of -e, or the first operand where neither -e nor -f was used
abbrev pub lists_of : ArgMatches → List (List ℕ)
lists_of m = if names_patterns m then texts_of m (codes "lists")
    else take 1 (texts_of m (codes "operands"))

-- the files to search: all operands that are no pattern list
abbrev pub searched_of : ArgMatches → List (List ℕ)
searched_of m = if names_patterns m then texts_of m (codes "operands")
    else drop 1 (texts_of m (codes "operands"))

-- the options in the matches, with these pattern lists and these files to search
pub record Specifies (m : ArgMatches) (patterns searched : List (List ℕ)) (o : GrepOptions) : Type 0 where
  pub fold : o.fold ≡ (if is_used m (codes "fold") then Ascii else No)
  pub invert : o.invert ≡ is_used m (codes "invert")
  pub whole : o.whole ≡ is_used m (codes "whole")
  pub count : o.count ≡ is_used m (codes "count")
  pub list : o.list ≡ is_used m (codes "list")
  pub number : o.number ≡ is_used m (codes "number")
  pub quiet : o.quiet ≡ is_used m (codes "quiet")
  pub silent : o.silent ≡ is_used m (codes "silent")
  pub lists : map string_bytes o.lists.items ≡ patterns
  pub files : map string_bytes o.files.items ≡ texts_of m (codes "files")
  pub operands : map string_bytes o.operands.items ≡ searched

-- the options in the matches
abbrev pub IsOptionsOf : ArgMatches → GrepOptions → Type 0
IsOptionsOf m = Specifies m (lists_of m) (searched_of m)

-- the fault where no pattern is given: the text that is printed, or that memory ran out
abbrev pub IsNoPattern : Fault → Type 0
IsNoPattern (Usage text) = string_bytes text ≡ codes "litgrep: no pattern given\n"
IsNoPattern OutOfMemory = Unit {0}

-- why matches give no options: no pattern is given, or memory ran out
abbrev pub IsRefusalOf : ArgMatches → Fault → Type 0
IsRefusalOf m (Usage text) = (gives_pattern m ≡ false) × IsNoPattern (Usage text)
IsRefusalOf m OutOfMemory = Unit {0}

-- the options in some matches, which give a pattern
abbrev pub AreOptions : GrepOptions → Type 0
AreOptions o = (m : ArgMatches) × (gives_pattern m ≡ true) × IsOptionsOf m o
