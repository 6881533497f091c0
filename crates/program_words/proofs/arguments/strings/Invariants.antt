use Rattle.std.proofs.Common.{◌≡◌, map, string_bytes, take}
use Rattle.program_words.specs.Matches.{texts}
use Rattle.program_words.proofs.arguments.strings.Given as goal

abbrev pub invariant-loop-word : goal.invariant-loop-word
invariant-loop-word l = map string_bytes l.copies.items ≡ texts (take l.word-index l.words)
