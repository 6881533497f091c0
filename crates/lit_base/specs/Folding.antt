-- Folding: what a comparison of bytes ignores. POSIX.1-2017 `grep`, OPTIONS, -i, in the POSIX locale.
use Rattle.std.specs.Prelude.{ℕ, ◌+◌, ◌&&◌, nat_le, if◌then◌else◌, List, map}
use Rattle.lit_base.specs.declared.fold.Fold.{Fold}
use Rattle.lit_base.specs.declared.fold.Fold.TheVariants.{No, Ascii}

-- a byte without its case: `A` to `Z` become `a` to `z`, all others stay
abbrev pub folded : Fold → ℕ → ℕ
folded No b = b
folded Ascii b = if nat_le 65 b && nat_le b 90 then b + 32 else b

-- a text, byte by byte
abbrev pub folded_text : Fold → List ℕ → List ℕ
folded_text fold text = map (folded fold) text
