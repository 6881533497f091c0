-- What the options name. POSIX.1-2017 `grep`, OPTIONS and OPERANDS.
use Rattle.std.specs.Prelude.{ℕ, List, [], ◌∷◌, map, string_bytes}
use Rattle.byte_io.specs.Sources.{Ask, Named, Standard, ask_of}
use Rattle.grep_run.specs.declared.options.GrepOptions.{GrepOptions}

-- the pattern lists
abbrev pub lists_of : GrepOptions → List (List ℕ)
lists_of o = map string_bytes o.lists.items

-- the asks for names
abbrev pub asks_for : List (List ℕ) → List Ask
asks_for names = map Named names

-- the asks for the pattern files
abbrev pub files_of : GrepOptions → List Ask
files_of o = asks_for (map string_bytes o.files.items)

-- those asks in order, or standard input alone where there is no operand
abbrev pub asks_or_standard : List (List ℕ) → List Ask
asks_or_standard [] = Standard ∷ []
asks_or_standard (operand ∷ operands) = map ask_of (operand ∷ operands)

-- the asks for the files to search
abbrev pub searched_of : GrepOptions → List Ask
searched_of o = asks_or_standard (map string_bytes o.operands.items)
