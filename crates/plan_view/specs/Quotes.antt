-- A literal as it is shown: between quotes, in printable ASCII.
use Rattle.std.specs.Prelude.{ℕ, ◌+◌, ◌/◌, ◌%◌, ◌==◌, ◌&&◌, ◌||◌, List, [], ◌∷◌, ◌++◌, codes, flat_map, if◌then◌else◌, length, nat_le, nat_lt, take}

-- a hexadecimal digit, small
abbrev pub hex_digit : ℕ → ℕ
hex_digit n = if nat_lt n 10 then 48 + n else 87 + n

-- a byte: a quote or a backslash after a backslash, printable ASCII as it is, any other byte as \x and two digits
abbrev pub shown_byte : ℕ → List ℕ
shown_byte b =
    if b == 34 || b == 92 then 92 ∷ b ∷ []
    else if nat_le 32 b && nat_le b 126 then b ∷ []
    else 92 ∷ 120 ∷ hex_digit (b / 16) ∷ hex_digit (b % 16) ∷ []

-- a literal: its first 24 bytes, and two dots where it has more
abbrev pub quoted : List ℕ → List ℕ
quoted text = 34 ∷ (flat_map shown_byte (take 24 text) ++ 34 ∷ (if nat_lt 24 (length text) then codes ".." else []))

-- all bytes of a literal
abbrev pub whole : List ℕ → List ℕ
whole text = 34 ∷ (flat_map shown_byte text ++ 34 ∷ [])
