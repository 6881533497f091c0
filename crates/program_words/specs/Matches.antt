-- Clap's matches for an argument.
use Rattle.std.specs.Prelude.{◌≡◌, ℕ, Bool, List, [], Some, map, nat_lt}
use Rattle.std.specs.Borrow.{Bor}
use Rattle.std.specs.Option.{option_map_or}
use Rattle.std.specs.Str.Parse.{digits_value, without_leading_plus}
use Rattle.clap.specs.Words.{count_of, found_of, matched_of, one_text, raw_values, rows_of}
use Rattle.clap.specs.declared.parser.matches.ArgMatches.{ArgMatches}

-- the texts that references point to
abbrev pub texts : List (Bor (List ℕ)) → List (List ℕ)
texts = map (λ text. text.now)

-- the texts given for an argument, none where it was not used
abbrev pub texts_of : ArgMatches → List ℕ → List (List ℕ)
texts_of m id = option_map_or raw_values (matched_of (found_of m) id) []

-- a flag that is counted was used, once or more
abbrev pub is_used : ArgMatches → List ℕ → Bool
is_used m id = nat_lt 0 (count_of id (rows_of (found_of m)))

-- the value of an argument is a number that its text spells in decimal digits
abbrev pub IsNumber : ArgMatches → List ℕ → ℕ → Type 0
IsNumber m id value = (text : List ℕ) × (one_text (found_of m) id ≡ Some text) × (value ≡ digits_value 10 (without_leading_plus text))
