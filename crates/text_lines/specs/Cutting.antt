-- How a text is cut at its first newline, and after its last one.
use Rattle.std.specs.Prelude.{◌≡◌, ◌==◌, ◌≤◌, ℕ, List, [], ◌∷◌, ◌++◌, length, map, take}
use Rattle.std.specs.Simd.Lanes.{mask_l}
use Rattle.lit_base.specs.Lines.{IsOnePiece, open_rest}

-- a line, its newline, and the rest
pub record IsFirstLine (text line rest : List ℕ) : Type 0 where
  pub one : IsOnePiece line
  pub whole : text ≡ line ++ 10 ∷ rest

-- a text starts with a line and its newline
pub record StartsWith (text line : List ℕ) : Type 0 where
  pub rest : List ℕ
  pub whole : text ≡ line ++ 10 ∷ rest

-- lines that newlines end, and a rest without a newline
pub record IsLastCut (text ended rest : List ℕ) : Type 0 where
  pub whole : text ≡ ended ++ rest
  pub closed : open_rest ended ≡ []
  pub one : IsOnePiece rest

-- the newlines among some of the first 64 bytes of a text, as a mask: bit k stands for byte k
pub record AreNewlines (text : List ℕ) (mask : ℕ) : Type 0 where
  pub seen : ℕ
  pub few : seen ≤ 64
  pub within : seen ≤ length text
  pub bits : mask ≡ mask_l (map (λ b. b == 10) (take seen text))
