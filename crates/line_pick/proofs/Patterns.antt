-- The patterns of a picker: the literals of its plan, and the null pattern.
use Rattle.std.proofs.Common.{◌≡◌, ℕ, Bool, true, false, ◌||◌, ◌&&◌, cond, eqb, length, List, [], ◌∷◌, ◌++◌, Option, None, Some, refl, sym, ap, ◌∙◌, append-nil, arith}
use Rattle.std.proofs.Math.Bool.{or-false, or-true}
use Rattle.std.proofs.lemmas.List.Folds.{list_any-append}
use Rattle.std.proofs.lemmas.Bool.{ne_eqb}
use Rattle.lit_plan.specs.Plans.{Plan}
use Rattle.lit_base.specs.declared.fold.Fold.{Fold}
use Rattle.lit_base.specs.Folding.{folded_text}
use Rattle.lit_base.specs.Selected.{matches, matches_pattern}
use Rattle.lit_base.proofs.MatchLemmas.{matching}
use Rattle.line_pick.specs.Matching.{fold_of, literals_of}

-- a list of patterns with the null one: some line matches by it, or by the others
with_null : (fold : Fold) (whole : Bool) (texts : List (List ℕ)) (line : List ℕ) → matches fold whole (texts ++ [] ∷ []) line ≡ (matches fold whole texts line || (matches_pattern fold whole line [] || false))
unfolding matches
with_null fold whole texts line = list_any-append (matches_pattern fold whole line) texts ([] ∷ [])

-- where the null pattern matches, the line does
pub null-matches : (fold : Fold) (whole has_empty : Bool) (texts : List (List ℕ)) (line : List ℕ) → has_empty ≡ true → matches_pattern fold whole line [] ≡ true
    → matches fold whole (texts ++ cond has_empty ([] ∷ []) []) line ≡ true
null-matches fold whole has_empty texts line is here =
    ap (λ b. matches fold whole (texts ++ cond b ([] ∷ []) []) line) is ∙ with_null fold whole texts line ∙ ap (λ b. matches fold whole texts line || (b || false)) here ∙ or-true (matches fold whole texts line)

-- where it does not, or is none of the patterns, the literals decide
pub null-misses : (fold : Fold) (whole has_empty : Bool) (texts : List (List ℕ)) (line : List ℕ) → (has_empty ≡ true → matches_pattern fold whole line [] ≡ false)
    → matches fold whole (texts ++ cond has_empty ([] ∷ []) []) line ≡ matches fold whole texts line
null-misses fold whole true texts line misses = with_null fold whole texts line ∙ ap (λ b. matches fold whole texts line || (b || false)) (misses refl) ∙ or-false (matches fold whole texts line)
null-misses fold whole false texts line misses = ap (λ ts. matches fold whole ts line) (append-nil texts)

-- no pattern matches nothing
pub none-matches : (fold : Fold) (whole : Bool) (line : List ℕ) → matches fold whole [] line ≡ false
unfolding matches
none-matches fold whole line = refl

-- the null pattern is a slice of each line
pub null-occurs : (fold : Fold) (line : List ℕ) → matches_pattern fold false line [] ≡ true
null-occurs fold line = (matching.occurs [] (folded_text fold line)).1 ([], folded_text fold line, refl)

-- as a whole it is the empty line alone
pub null-whole : (fold : Fold) (line : List ℕ) (b : Bool) → eqb (length line) 0 ≡ b → matches_pattern fold true line [] ≡ b
null-whole fold [] b e = e
null-whole fold (x ∷ xs) b e = sym (ne_eqb (length (x ∷ xs)) 0 (λ zero. absurd (omega arith))) ∙ e

-- an empty line, and the null pattern
pub null-found : (fold : Fold) (has_empty : Bool) (texts : List (List ℕ)) (line : List ℕ) → (has_empty && eqb (length line) 0) ≡ true → matches fold true (texts ++ cond has_empty ([] ∷ []) []) line ≡ true
null-found fold true texts line e = null-matches fold true true texts line refl (null-whole fold line true e)
null-found fold false texts line e = (cc)

pub null-missed : (fold : Fold) (has_empty : Bool) (texts : List (List ℕ)) (line : List ℕ) → (has_empty && eqb (length line) 0) ≡ false
    → matches fold true (texts ++ cond has_empty ([] ∷ []) []) line ≡ matches fold true texts line
null-missed fold true texts line e = null-misses fold true true texts line (λ _. null-whole fold line false e)
null-missed fold false texts line e = null-misses fold true false texts line (λ same. (cc))

-- the literals of a plan that is there
pub by_plan : (whole : Bool) (line : List ℕ) (plan : Option Plan) (p : Plan) → plan ≡ Some p → matches p.literals.folding whole p.literals.texts line ≡ matches (fold_of plan) whole (literals_of plan) line
by_plan whole line plan p e = ap (λ (q : Option Plan). matches (fold_of q) whole (literals_of q) line) (sym e)

-- and without a plan
pub no_plan : (whole : Bool) (line : List ℕ) (plan : Option Plan) → plan ≡ None → matches (fold_of plan) whole (literals_of plan) line ≡ false
no_plan whole line plan e = ap (λ (q : Option Plan). matches (fold_of q) whole (literals_of q) line) e ∙ none-matches (fold_of None) whole line
