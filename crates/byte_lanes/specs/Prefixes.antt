-- A text that is a prefix of another.
use Rattle.std.specs.Prelude.{◌≡◌, ℕ, ◌<◌, ◌≤◌, List, length, slice_index}

-- the longer text begins with the bytes of the text
pub record IsPrefixOf (text longer : List ℕ) : Type 0 where
  pub within : length text ≤ length longer
  pub same : (place : ℕ) → place < length text → slice_index text place ≡ slice_index longer place
