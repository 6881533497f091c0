-- The files and the standard input of a program: the content under each name, the content of standard input at each
-- ask, and the asks made.
use Rattle.std.specs.Prelude.{◌≡◌, ℕ, ◌^◌, ◌<◌, Bool, true, false, List, [], ◌∷◌, ◌++◌, All, length, codes, if◌then◌else◌, Option, Some, None, IfSome, Result, IsErr, IsOkAnd}
use Rattle.std.specs.Str.{bytes_eq}
use Rattle.byte_io.specs.Devices.{Coming, Clean, Faulty}
use Rattle.byte_io.specs.declared.opener.Missing.{Missing}

-- a text, and whether a read fault follows it in place of a clean end
pub record Content : Type 0 where
  pub text : List ℕ
  pub is_faulty : Bool

-- an ask: for the file of a name, for standard input, or for a new file of a name
pub data Ask : Type 0 where
  Named : List ℕ → Ask
  Standard : Ask
  Created : List ℕ → Ask

-- the sources still to come: under names, several under one name in order, None where it cannot be opened; and on
-- standard input. Also the names under which a file can be made, and the asks made so far, in order
pub record Sources : Type 0 where
  pub named : List (List ℕ × Option Content)
  pub standard : List Content
  pub creatable : List (List ℕ)
  pub asks : List Ask

-- what an ask for a name takes: the first source under it
abbrev pub source_of : {T : Type 0} → List ℕ → List (List ℕ × Option T) → Option T
source_of name [] = None
source_of name (e ∷ rest) = if bytes_eq e.0 name then e.1 else source_of name rest

-- the sources after it: all others
abbrev pub without_first : {T : Type 0} → List ℕ → List (List ℕ × Option T) → List (List ℕ × Option T)
without_first name [] = []
without_first name (e ∷ rest) = if bytes_eq e.0 name then rest else e ∷ without_first name rest

-- what an ask for standard input takes: the first content, or an empty one where none remains
abbrev pub content_of : List Content → Content
content_of [] = record { text = []; is_faulty = false }
content_of (c ∷ rest) = c

-- the contents after it
abbrev pub after_first : List Content → List Content
after_first [] = []
after_first (c ∷ rest) = rest

-- whether a file can be made under a name, however often
abbrev pub can_create : List ℕ → List (List ℕ) → Bool
can_create name [] = false
can_create name (n ∷ rest) = if bytes_eq n name then true else can_create name rest

-- what an ask takes
abbrev pub taken_by : Ask → Sources → Option Content
taken_by (Named name) s = source_of name s.named
taken_by Standard s = Some (content_of s.standard)
taken_by (Created name) s = None

-- the sources after it
abbrev pub after : Ask → Sources → Sources
after (Named name) s = record s { named = without_first name s.named; asks = s.asks ++ Named name ∷ [] }
after Standard s = record s { standard = after_first s.standard; asks = s.asks ++ Standard ∷ [] }
after (Created name) s = record s { asks = s.asks ++ Created name ∷ [] }

-- the sources after one ask after another
abbrev pub after_all : List Ask → Sources → Sources
after_all [] s = s
after_all (a ∷ asks) s = after_all asks (after a s)

-- some of the asks were made, from their start
pub record AsksPrefix (all : List Ask) (s left : Sources) : Type 0 where
  pub made : List Ask
  pub rest : List Ask
  pub parts : all ≡ made ++ rest
  pub after : left ≡ after_all made s

-- the ask for an operand: `-` is standard input
abbrev pub ask_of : List ℕ → Ask
ask_of operand = if bytes_eq operand (codes "-") then Standard else Named operand

-- the known bytes of a device that reads a content from its start
abbrev pub coming_of : Content → Coming
coming_of c = record { text = c.text; ending = if c.is_faulty then Faulty else Clean }

-- an ask gives its source, with known bytes
abbrev pub OpensAs : {I : Type 0} → (I → Option Coming) → Option Content → Result I Missing → Type 0
OpensAs coming None result = IsErr result
OpensAs coming (Some c) result = IsOkAnd result (λ input. coming input ≡ Some (coming_of c))

-- an ask for a new file answers an empty one, where one can be made
abbrev pub CreatesAs : {O : Type 0} → (O → Option (List ℕ)) → Bool → Result O Missing → Type 0
CreatesAs written false result = IsErr result
CreatesAs written true result = IsOkAnd result (λ output. written output ≡ Some [])

-- a text that a loop over a reader reads to its end
abbrev pub IsShort : Content → Type 0
IsShort c = length c.text < 2 ^ 40

-- sources of such texts
pub record AreShort (s : Sources) : Type 0 where
  pub named : All (λ e. IfSome e.1 IsShort) s.named
  pub standard : All IsShort s.standard
