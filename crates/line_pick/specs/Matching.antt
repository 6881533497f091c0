-- Which lines a picker selects: those that `selected` gives for its patterns.
use Rattle.std.specs.Prelude.{◌≡◌, ℕ, Bool, true, false, List, [], ◌∷◌, ◌++◌, ◌↔◌, All, Contains, IsTrue, Option, None, Some, IfSome, if◌then◌else◌}
use Rattle.std.specs.Option.{option_copied}
use Rattle.lit_base.specs.declared.fold.Fold.{Fold}
use Rattle.lit_base.specs.declared.fold.Fold.TheVariants.{No}
use Rattle.lit_base.specs.Lines.{IsOnePiece}
use Rattle.lit_base.specs.Literals.{Literals}
use Rattle.lit_base.specs.NormalForm.{IsNormalForm}
use Rattle.lit_base.specs.Selected.{is_selected, matches}
use Rattle.lit_plan.specs.Plans.{Plan}
use Rattle.line_pick.specs.declared.matcher.LineRule.{LineRule}
use Rattle.line_pick.specs.declared.matcher.LineSearch.{LineSearch}
use Rattle.line_pick.specs.declared.matcher.Matcher.{Matcher}

-- the literals of a plan; with no plan there are none
abbrev pub literals_of : Option Plan → List (List ℕ)
literals_of None = []
literals_of (Some plan) = plan.literals.texts

-- the list of a plan, if there is one
abbrev pub list_of : Option Plan → Option Literals
list_of None = None
list_of (Some plan) = Some plan.literals

-- the fold that they are compared under; the null pattern asks for none
abbrev pub fold_of : Option Plan → Fold
fold_of None = No
fold_of (Some plan) = plan.literals.folding

-- the patterns: the literals, and the null pattern if there is one
abbrev pub literals_and_null : Option Plan → Bool → List (List ℕ)
literals_and_null plan has_empty = literals_of plan ++ (if has_empty then [] ∷ [] else [])

-- whether a line is selected
abbrev pub selects : Option Plan → Bool → LineRule → List ℕ → Bool
selects plan has_empty rule = is_selected (fold_of plan) rule.whole rule.invert (literals_and_null plan has_empty)

-- whether it is, by what a picker compares lines with
abbrev pub picks : Matcher → List ℕ → Bool
picks m = selects (option_copied m.plan) m.has_empty m.rule

-- whether a line matches by it, as a whole or in part
abbrev pub matched : Matcher → Bool → List ℕ → Bool
matched m whole = matches (fold_of (option_copied m.plan)) whole (literals_and_null (option_copied m.plan) m.has_empty)

-- a matcher compares lines as a whole with the literals of a list alone
pub record StandsForWhole (m : Matcher) (l : Literals) : Type 0 where
  pub whole : m.rule.whole ≡ true
  pub null : m.has_empty ≡ false
  pub list : list_of (option_copied m.plan) ≡ Some l

-- no literal holds a newline
abbrev pub AreInLines : Option Plan → Type 0
AreInLines plan = All IsOnePiece (literals_of plan)

-- a search of lines is by one plan, none of whose literals holds a newline
pub record IsByPlan (s : LineSearch) : Type 0 where
  pub apart : AreInLines (option_copied s.matcher.plan)
  pub serves : IfSome s.finder (λ list. list_of (option_copied s.matcher.plan) ≡ Some list)

-- a plan and a null pattern stand for raw patterns under a fold: the literals are their normal form, and the null
-- pattern is there if one of them is null
pub record StandsFor (folding : Fold) (raw : List (List ℕ)) (plan : Option Plan) (has_empty : Bool) : Type 0 where
  pub form : IsNormalForm folding raw (literals_of plan)
  pub fold : IfSome plan (λ p. p.literals.folding ≡ folding)
  pub null : IsTrue has_empty ↔ Contains raw []

-- who stands for raw patterns selects the lines that they select, and holds no newline if they hold none
pub record StandingLaw : Type 0 where
  pub selected : (folding : Fold) (raw : List (List ℕ)) (plan : Option Plan) (has_empty : Bool) (rule : LineRule) (line : List ℕ) → StandsFor folding raw plan has_empty
      → selects plan has_empty rule line ≡ is_selected folding rule.whole rule.invert raw line
  pub apart : (folding : Fold) (raw : List (List ℕ)) (plan : Option Plan) (has_empty : Bool) → StandsFor folding raw plan has_empty → All IsOnePiece raw → AreInLines plan
