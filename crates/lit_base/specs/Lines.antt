-- How newlines cut a text: a pattern list into patterns, a file into lines. POSIX.1-2017 `grep`: OPTIONS, -e
-- ("each pattern terminated by a newline"), and the Base Definitions' 3.206 Line.
use Rattle.std.specs.Prelude.{◌≡◌, ◌≢◌, ℕ, List, [], ◌∷◌, ◌++◌, ◌==◌, All}
use Rattle.std.specs.List.{slice_split, join_with_byte}

-- the pieces before, between and after the newlines: one more than there are newlines
abbrev pub pieces : List ℕ → List (List ℕ)
pieces text = slice_split (λ b. b == 10) text

-- pieces without the last one, where that is empty
abbrev pub without_empty_last : List (List ℕ) → List (List ℕ)
without_empty_last [] = []
without_empty_last ([] ∷ []) = []
without_empty_last ((b ∷ bs) ∷ []) = (b ∷ bs) ∷ []
without_empty_last (p ∷ q ∷ more) = p ∷ without_empty_last (q ∷ more)

-- the pieces that newlines end, and what stands after the last newline if it is not empty
unfoldable pub lines : List ℕ → List (List ℕ)
lines text = without_empty_last (pieces text)

-- pieces without the last one
abbrev pub without_last : List (List ℕ) → List (List ℕ)
without_last [] = []
without_last (p ∷ []) = []
without_last (p ∷ q ∷ more) = p ∷ without_last (q ∷ more)

-- the last piece
abbrev pub last_piece : List (List ℕ) → List ℕ
last_piece [] = []
last_piece (p ∷ []) = p
last_piece (p ∷ q ∷ more) = last_piece (q ∷ more)

-- the lines that a newline ended
unfoldable pub ended_lines : List ℕ → List (List ℕ)
ended_lines text = without_last (pieces text)

-- what stands after the last newline: the line that no newline has ended yet
unfoldable pub open_rest : List ℕ → List ℕ
open_rest text = last_piece (pieces text)

-- an open line at the end of a text: it is a line if it is not empty
abbrev pub last_line : List ℕ → List (List ℕ)
last_line rest = without_empty_last (rest ∷ [])

-- a text without a newline
abbrev pub IsOnePiece : List ℕ → Type 0
IsOnePiece piece = All (λ b. b ≢ 10) piece

-- what the pieces and the lines of a text are
pub record LinesLaw : Type 0 where
  -- the pieces hold no newline, and newlines between them give the text; no other pieces do
  pub apart : (text : List ℕ) → All IsOnePiece (pieces text)
  pub joined : (text : List ℕ) → join_with_byte 10 (pieces text) ≡ text
  pub only : (parts : List (List ℕ)) → parts ≢ [] → All IsOnePiece parts → pieces (join_with_byte 10 parts) ≡ parts
  -- a newline ends a line; what stands after the last newline is a line if it is not empty
  pub ended : (line rest : List ℕ) → IsOnePiece line → lines (line ++ 10 ∷ rest) ≡ line ∷ lines rest
  pub last : (line : List ℕ) → line ≢ [] → IsOnePiece line → lines line ≡ line ∷ []
  pub none : lines [] ≡ []

-- how the ended lines of a text grow with it
pub record EndedLaw : Type 0 where
  -- of a text in two parts: the ended lines of the first part, then of its open rest with the second part
  pub joined : (text more : List ℕ) → ended_lines (text ++ more) ≡ ended_lines text ++ ended_lines (open_rest text ++ more)
  pub rest : (text more : List ℕ) → open_rest (text ++ more) ≡ open_rest (open_rest text ++ more)
  -- a newline ends a line; a text without one is open
  pub ended : (line rest : List ℕ) → IsOnePiece line → ended_lines (line ++ 10 ∷ rest) ≡ line ∷ ended_lines rest
  pub after : (line rest : List ℕ) → IsOnePiece line → open_rest (line ++ 10 ∷ rest) ≡ open_rest rest
  pub none : (line : List ℕ) → IsOnePiece line → ended_lines line ≡ []
  pub all_open : (line : List ℕ) → IsOnePiece line → open_rest line ≡ line
  -- the ended lines and the open rest hold no newline, and are the lines of the text
  pub apart : (text : List ℕ) → All IsOnePiece (ended_lines text)
  pub open_apart : (text : List ℕ) → IsOnePiece (open_rest text)
  pub lines : (text : List ℕ) → lines text ≡ ended_lines text ++ last_line (open_rest text)
