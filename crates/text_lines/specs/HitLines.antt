-- Where a literal stands in a text of lines.
use Rattle.std.specs.Prelude.{◌≡◌, ℕ, true, false, List, [], ◌∷◌, ◌++◌, All, Option, IfSome}
use Rattle.lit_base.specs.Lines.{IsOnePiece, ended_lines, open_rest}
use Rattle.lit_base.specs.Literals.{IsNormal, Literals}
use Rattle.lit_base.specs.Selected.{matches}
use Rattle.lit_plan.specs.Plans.{Plan}
use Rattle.text_search.specs.Searched.{Searched}

-- a text stands in another after lines that newlines end, or after nothing
pub record IsAfterLines (whole text : List ℕ) : Type 0 where
  pub prefix : List ℕ
  pub cut : whole ≡ prefix ++ text
  pub closed : open_rest prefix ≡ []

-- no line that a newline ends in the text holds a literal
abbrev pub AllMiss : Literals → List ℕ → Type 0
AllMiss l text = All (λ line. matches l.folding false l.texts line ≡ false) (ended_lines text)

-- the first line that holds one: the lines before it, the line, and what stands after its newline
pub record IsFirstHitLine (l : Literals) (text missed line rest : List ℕ) : Type 0 where
  pub whole : text ≡ missed ++ (line ++ 10 ∷ rest)
  pub closed : open_rest missed ≡ []
  pub one : IsOnePiece line
  pub misses : AllMiss l missed
  pub hit : matches l.folding false l.texts line ≡ true

-- what a search for such lines has: its plan, the literals of its finder, if there is one, and the text after the last
-- line found
pub record HitSearch : Type 0 where
  pub plan : Plan
  pub finder : Option Literals
  pub rest : List ℕ

-- a search is by the plan, of a text of ended lines, and the rest stands after some of them
pub record IsHitSearch (plan : Plan) (finder : Option Literals) (search : Searched) (text rest : List ℕ) : Type 0 where
  pub serves : IfSome finder (λ list. list ≡ plan.literals)
  pub by_plan : search ≡ record { plan = plan; text = text }
  pub after : IsAfterLines text rest
  pub closed : open_rest rest ≡ []
  pub apart : All IsOnePiece plan.literals.texts
  pub normal : IsNormal plan.literals
