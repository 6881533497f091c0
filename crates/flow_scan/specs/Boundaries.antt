-- What a contract sees of a `Boundary`, and what its fields keep.
use Rattle.std.specs.Prelude.{◌≡◌, ℕ, ◌+◌, ◌<◌, ◌≤◌, ◌^◌, ◌⊎◌, List, length, max, take}
use Rattle.flow_scan.specs.declared.boundary.TheConstants.{SHORT}

-- the last bytes of a stream, at most `carry`, and the first bytes of the next piece
pub record Joining : Type 0 where
  pub carry : ℕ
  pub tail : List ℕ
  pub prefix : List ℕ

-- room for the overlap and the bytes that are offered after it, in which the held and the offered bytes lie
pub record IsBoundary (len carry held ahead : ℕ) : Type 0 where
  pub small : carry < 2 ^ 32
  pub room : len ≡ carry + max carry SHORT
  pub within : held + ahead ≤ len

-- the first bytes of a piece: all of them, or as many as a hit in the rest may need
pub record AreOffered (carry : ℕ) (piece prefix : List ℕ) : Type 0 where
  pub first : prefix ≡ take (length prefix) piece
  pub enough : (length prefix ≡ length piece) ⊎ (length prefix ≡ carry)
