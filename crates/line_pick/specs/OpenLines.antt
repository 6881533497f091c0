-- What is kept of a line that no newline has ended yet.
use Rattle.std.specs.Prelude.{◌≡◌, ◌<◌, ◌≤◌, ◌+◌, ◌-◌, ◌*◌, ℕ, Bool, true, false, List, ◌++◌, length, slice_index, slice_range, Option, None, Some}
use Rattle.lit_base.specs.Lines.{IsOnePiece}
use Rattle.lit_base.specs.Literals.{Literals, lengths}
use Rattle.lit_plan.specs.Plans.{Plan}

-- the length of the longest literal, which is the last one; 0 where there is none
abbrev pub longest_of : Literals → ℕ
longest_of l = slice_index (lengths l) (length l.texts - 1)

abbrev pub longest_in : Option Plan → ℕ
longest_in None = 0
longest_in (Some plan) = longest_of plan.literals

-- a text decides an open line: however the line goes on, the test says the same after the text. It has no more bytes,
-- and some where the line has some
pub record Decides (test : List ℕ → Bool) (kept line : List ℕ) : Type 0 where
  pub same : (more : List ℕ) → test (kept ++ more) ≡ test (line ++ more)
  pub one : IsOnePiece kept
  pub few : length kept ≤ length line
  pub some : 0 < length line → 0 < length kept

-- a part of a line decides it, and is at most one byte longer than the longest literal
pub record IsDecidingPart (test : List ℕ → Bool) (longest : ℕ) (line : List ℕ) (start end : ℕ) : Type 0 where
  pub same : (more : List ℕ) → test (slice_range line start end ++ more) ≡ test (line ++ more)
  pub ordered : start ≤ end
  pub within : end ≤ length line
  pub few : end - start ≤ longest + 1
  pub some : 0 < length line → start < end

-- a line is decided: it has some bytes, and the test says the same of it however it goes on
pub record IsDecided (test : List ℕ → Bool) (line : List ℕ) : Type 0 where
  pub some : 0 < length line
  pub same : (more : List ℕ) → test (line ++ more) ≡ test line

-- how many bytes are kept at most of an open line whose bytes nobody sees
abbrev pub most_kept : Option Plan → ℕ
most_kept plan = 2 * longest_in plan + 1

-- what is kept of it decides it, and is short
pub record IsKept (test : List ℕ → Bool) (most : ℕ) (kept line : List ℕ) : Type 0 where
  pub decides : Decides test kept line
  pub short : length kept ≤ most

-- what is kept of an open line: the line itself, where its bytes are seen
abbrev pub Keeps : Bool → (List ℕ → Bool) → ℕ → List ℕ → List ℕ → Type 0
Keeps true test most kept line = kept ≡ line
Keeps false test most kept line = IsKept test most kept line
