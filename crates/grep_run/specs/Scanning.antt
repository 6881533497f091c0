-- Scanning one input: where the picker and the block stand after the bytes so far.
use Rattle.std.specs.Prelude.{◌≡◌, ℕ, ◌+◌, ◌-◌, ◌^◌, ◌<◌, ◌≤◌, Bool, true, false, List, [], ◌++◌, flat_map, length, min, nat_lt, Option, None, Some, Result, Ok, Err}
use Rattle.byte_io.specs.Sources.{Content}
use Rattle.lit_base.specs.Lines.{ended_lines, open_rest}
use Rattle.line_pick.specs.Emitting.{numbered}
use Rattle.line_pick.specs.Matching.{selects as picks_of}
use Rattle.line_pick.specs.OpenLines.{Keeps, most_kept}
use Rattle.line_pick.specs.Picking.{Picking}
use Rattle.line_pick.specs.declared.sink.Next.TheVariants.{Stop}
use Rattle.line_pick.specs.declared.state.State.TheVariants.{Running}
use Rattle.grep_run.specs.declared.block.Block.{Block}
use Rattle.grep_run.specs.declared.options.GrepOptions.{GrepOptions}
use Rattle.grep_run.specs.declared.request.End.{End}
use Rattle.grep_run.specs.declared.request.End.TheVariants.{Clean, Fault}
use Rattle.grep_run.specs.declared.status.Stop.{Stop as Halt}
use Rattle.grep_run.specs.Blocks.{block_in, block_of, has_any, is_trouble, lines_of}
use Rattle.grep_run.specs.Growing.{added_line, are_shown, ending_of, next_of}
use Rattle.grep_run.specs.Writers.{Writer, Writes, WritesPrefix}

-- the test of a picker
abbrev pub picked_by : Picking → List ℕ → Bool
picked_by p = picks_of p.plan p.has_empty p.rule

-- the selected lines that newlines end in a text
abbrev pub ended_in : (List ℕ → Bool) → List ℕ → List (ℕ × List ℕ)
ended_in test text = numbered test 0 (ended_lines text)

-- the picker, with this test, has been fed the text
pub record HasFed (test : List ℕ → Bool) (text : List ℕ) (p : Picking) : Type 0 where
  pub tests : picked_by p ≡ test
  pub held : Keeps p.has_bytes test (most_kept p.plan) p.held (open_rest text)
  pub lines : p.is_numbered ≡ true → p.lines ≡ length (ended_lines text)
  pub bytes : p.bytes ≡ length text
  pub state : p.state ≡ Running

-- the block has taken these lines, and they are written; where none is wanted after the first, there was none
pub record HasTaken (o : GrepOptions) (name : List ℕ) (selected : List (ℕ × List ℕ)) (b : Block) (before out : Writer) : Type 0 where
  pub options : b.options.now ≡ o
  pub called : b.name.now ≡ name
  pub count : b.count ≡ min (length selected) (2 ^ 64 - 1)
  pub written : Writes before out (flat_map (added_line o name) selected)
  pub empty : b.text.items ≡ []
  pub unwanted : next_of o ≡ Stop → selected ≡ []

-- the block has taken a line, and none is wanted any more
pub record IsHalted (o : GrepOptions) (name : List ℕ) (selected : List (ℕ × List ℕ)) (b : Block) (before out : Writer) : Type 0 where
  pub options : b.options.now ≡ o
  pub called : b.name.now ≡ name
  pub stop : next_of o ≡ Stop
  pub some : 0 < length selected
  pub count : 0 < b.count
  pub written : Writes before out []
  pub empty : b.text.items ≡ []

-- picker and block stand after the text; lines are numbered if numbers are written, and their bytes are seen if lines
-- are
pub record StandsAfter (o : GrepOptions) (test : List ℕ → Bool) (name text : List ℕ) (p : Picking) (b : Block) (before out : Writer) : Type 0 where
  pub fed : HasFed test text p
  pub numbers : p.is_numbered ≡ o.number
  pub seen : p.has_bytes ≡ are_shown o
  pub taken : HasTaken o name (ended_in test text) b before out

-- a piece was fed after a text: picker and block stand after both; no line is wanted any more; there are too many
-- bytes; or it was cut
abbrev pub FeedsPiece : GrepOptions → (List ℕ → Bool) → List ℕ → List ℕ → List ℕ → Result (Option End) Halt → Picking → Block → Writer → Writer → Type 0
FeedsPiece o test name text piece (Ok None) p b before out = StandsAfter o test name (text ++ piece) p b before out
FeedsPiece o test name text piece (Ok (Some Clean)) p b before out = IsHalted o name (ended_in test (text ++ piece)) b before out
FeedsPiece o test name text piece (Ok (Some Fault)) p b before out = 2 ^ 64 ≤ length text + length piece
FeedsPiece o test name text piece (Err stop) p b before out = WritesPrefix before out (flat_map (added_line o name) (ended_in test (text ++ piece)))

-- whether reading ended in a fault
abbrev pub is_fault : End → Bool
is_fault Clean = false
is_fault Fault = true

-- all wanted lines of a content came: the text written and held is the block, except its end
pub record HasRead (o : GrepOptions) (test : List ℕ → Bool) (name : List ℕ) (c : Content) (end : End) (b : Block) (before out : Writer) : Type 0 where
  pub options : b.options.now ≡ o
  pub called : b.name.now ≡ name
  pub lines : List ℕ
  pub written : Writes before out lines
  pub whole : lines ++ (b.text.items ++ ending_of o name b.count) ≡ block_of o name (numbered test 0 (lines_of c))
  pub any : nat_lt 0 b.count ≡ has_any (numbered test 0 (lines_of c))
  pub error : is_fault end ≡ is_trouble o test (Some c)

-- the lines of a content were read, or a prefix of its block was written
abbrev pub ReadsLines : GrepOptions → (List ℕ → Bool) → List ℕ → Content → Result End Halt → Block → Writer → Writer → Type 0
ReadsLines o test name c (Ok end) b before out = HasRead o test name c end b before out
ReadsLines o test name c (Err stop) b before out = WritesPrefix before out (block_in o test name (Some c))
