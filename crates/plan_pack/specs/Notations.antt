-- The patterns of a text's lines in either notation, and which lines are refused.
use Rattle.std.specs.Prelude.{◌≡◌, ◌≢◌, ℕ, ◌+◌, ◌*◌, ◌%◌, List, [], ◌∷◌, Option, Some, None, Result, Ok, Err, length, map, unwrap_or}
use Rattle.std.specs.List.{AllPass}
use Rattle.std.specs.Option.{option_map, option_or}
use Rattle.hex.specs.Hex.{IsBytes, decode_of, encode_lower, encode_upper, is_hex_digit}
use Rattle.hex.specs.declared.error.FromHexError.{FromHexError}
use Rattle.lit_base.specs.Lines.{lines}
use Rattle.lit_base.specs.RawLists.{pattern_refusal, text_refusal}
use Rattle.plan_pack.specs.declared.notation.Notation.{Notation}
use Rattle.plan_pack.specs.declared.notation.Notation.TheVariants.{Bytes, Hex}
use Rattle.plan_pack.specs.declared.patterns.Unlisted.{Unlisted}
use Rattle.plan_pack.specs.declared.patterns.Unlisted.TheVariants.{BadHex, BadPatterns}

-- how many bytes a file may have: 1,048,576 bytes of patterns, as they are or in digits, and 4,096 newlines
abbrev pub most_bytes : Notation → ℕ
most_bytes Bytes = 1052672
most_bytes Hex = 2101248

-- the bytes that were decoded, if they were
abbrev pub decoded : Result (List ℕ) FromHexError → Option (List ℕ)
decoded (Ok bytes) = Some bytes
decoded (Err fault) = None

-- the bytes that a line says by two digits each, of either case; none where it holds anything else, or one digit alone
abbrev pub hex_bytes : List ℕ → Option (List ℕ)
hex_bytes line = decoded (decode_of line)

-- likewise, and no bytes in place of none
abbrev pub hex_pattern : List ℕ → List ℕ
hex_pattern line = unwrap_or (hex_bytes line) []

-- what the lines say: each text has a line of small digits and one of capitals, and no line but pairs of digits says
-- any
pub record HexLaw : Type 0 where
  pub small : (bytes : List ℕ) → IsBytes bytes → hex_bytes (encode_lower bytes) ≡ Some bytes
  pub capital : (bytes : List ℕ) → IsBytes bytes → hex_bytes (encode_upper bytes) ≡ Some bytes
  pub pairs : (line : List ℕ) → length line % 2 ≡ 0 → AllPass is_hex_digit line → hex_bytes line ≢ None
  pub only : (line bytes : List ℕ) → hex_bytes line ≡ Some bytes → (length line ≡ 2 * length bytes) × AllPass is_hex_digit line × IsBytes bytes

-- the patterns of a text's lines
abbrev pub patterns_of : Notation → List ℕ → List (List ℕ)
patterns_of Bytes text = lines text
patterns_of Hex text = map hex_pattern (lines text)

-- the refusal of a line that says these bytes or none, after `count` patterns with `bytes` bytes in all
abbrev pub line_refusal : ℕ → ℕ → Option (List ℕ) → Option Unlisted
line_refusal count bytes None = Some (BadHex (count + 1))
line_refusal count bytes (Some pattern) = option_map BadPatterns (pattern_refusal count bytes (length pattern))

-- of lines in turn: the first refusal
abbrev pub hex_refusal : ℕ → ℕ → List (List ℕ) → Option Unlisted
hex_refusal count bytes [] = None
hex_refusal count bytes (line ∷ more) =
    option_or (line_refusal count bytes (hex_bytes line)) (hex_refusal (count + 1) (bytes + length (hex_pattern line)) more)

-- why a text's lines give no list
abbrev pub list_refusal : Notation → List ℕ → Option Unlisted
list_refusal Bytes text = option_map BadPatterns (text_refusal [] text (lines text))
list_refusal Hex text = hex_refusal 0 0 (lines text)
