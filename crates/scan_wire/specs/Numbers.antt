-- Numbers as bytes, the greatest byte first.
use Rattle.std.specs.Prelude.{ℕ, List}
use Rattle.std.specs.Int.{w16, w32, w64, to_be_bytes}

-- a number in two bytes
unfoldable pub u16_text : ℕ → List ℕ
u16_text n = to_be_bytes w16 n

-- a number in four bytes
unfoldable pub u32_text : ℕ → List ℕ
u32_text n = to_be_bytes w32 n

-- a number in eight bytes
unfoldable pub u64_text : ℕ → List ℕ
u64_text n = to_be_bytes w64 n
