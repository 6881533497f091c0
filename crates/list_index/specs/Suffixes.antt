-- Keys of the last bytes of a text, by which the literals that may end there are found.
use Rattle.std.specs.Prelude.{ℕ, ◌+◌, ◌-◌, ◌*◌, ◌/◌, ◌%◌, ◌^◌, min, List, [], ◌∷◌, ◌++◌, length, replicate, slice_range}
use Rattle.std.specs.Int.RustNames.{bit_and, bit_or}
use Rattle.lit_base.specs.Literals.{Literals, literal_at}
use Rattle.lit_base.specs.declared.fold.Fold.{Fold}
use Rattle.lit_base.specs.declared.fold.Fold.TheVariants.{No, Ascii}

-- the number that bytes spell, the first of them least
abbrev pub spelled : List ℕ → ℕ
spelled [] = 0
spelled (b ∷ bs) = spelled bs * 256 + b

-- the bit of letter case in each of eight bytes, unless case counts
abbrev pub case_bits : Fold → ℕ
case_bits No = 0
case_bits Ascii = 2314885530818453536

-- the key of some bytes before a position of a text: what they spell, after zeros as eight bytes, without the case of
-- letters
unfoldable pub suffix_key : Fold → List ℕ → ℕ → ℕ → ℕ
suffix_key fold text end width = bit_or (spelled (replicate (8 - width) 0 ++ slice_range text (end - width) end)) (case_bits fold)

-- the bits of the last bytes of eight
abbrev pub suffix_mask : ℕ → ℕ
suffix_mask width = 2 ^ 64 - 2 ^ (8 * (8 - width))

-- the key of the last bytes of the eight that a word spells, with these bits of letter case
abbrev pub masked_key : ℕ → ℕ → ℕ → ℕ
masked_key word width case = bit_or (bit_and word (suffix_mask width)) case

-- the hash of a key, of this many bits
unfoldable pub hash_of : ℕ → ℕ → ℕ
hash_of bits key = key * 11400714819323198485 % 18446744073709551616 / 2 ^ (64 - bits)

-- the key width of a literal: its length, up to eight
abbrev pub key_width : ℕ → ℕ
key_width len = min len 8

-- the key of the last bytes of the literal at a place
abbrev pub last_key : Literals → ℕ → ℕ → ℕ
last_key l width place = suffix_key l.folding (literal_at l place) (length (literal_at l place)) width
