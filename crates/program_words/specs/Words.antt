-- The messages on words.
use Rattle.std.specs.Prelude.{◌≡◌, ℕ, List, ◌++◌, codes, string_bytes, ⊤}
use Rattle.program_words.specs.declared.fault.Fault.{Fault}
use Rattle.program_words.specs.declared.fault.Fault.TheVariants.{OutOfMemory, Usage}

-- that a word of the program of this name is no text, or that memory ran out
abbrev pub IsUnread : List ℕ → Fault → Type 0
IsUnread program (Usage text) = string_bytes text ≡ program ++ codes ": a word is not UTF-8\n"
IsUnread program OutOfMemory = ⊤

-- the message on words that ask for nothing, by a program with this message on want of memory
abbrev pub message_on : List ℕ → Fault → List ℕ
message_on out_of_memory (Usage text) = string_bytes text
message_on out_of_memory OutOfMemory = out_of_memory
