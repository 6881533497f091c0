-- The line of a hit, from what the plan answers of it.
use Rattle.std.proofs.Common.{◌≡◌, ℕ, ◌-◌, List, [], Some, length, sym, ap, ◌∙◌}
use Rattle.std.proofs.Math.Nat.{add-sub_cancel}
use Rattle.std.specs.List.{slice_get}
use Rattle.std.specs.Option.{unwrap_or}
use Rattle.lit_base.specs.Literals.{Literals}
use Rattle.lit_plan.specs.Starts.{StartsAt}
use Rattle.example_scan.specs.Lines.{hit_line, line_text, literal_of}

-- a literal that stands there is the hit's
literal-is : (l : Literals) (hit : ℕ × ℕ) (literal : List ℕ) → slice_get l.texts hit.0 ≡ Some literal → literal_of l hit ≡ literal
literal-is l hit literal stands = ap (λ o. unwrap_or o []) stands

-- it starts at its end less its length
start-is : (l : Literals) (hit : ℕ × ℕ) (start : ℕ) → StartsAt l hit.0 hit.1 start → hit.1 - length (literal_of l hit) ≡ start
start-is l hit start s =
    ap (λ t. hit.1 - length t) (literal-is l hit s.literal s.stands) ∙ (ap (λ n. n - length s.literal) (sym s.bytes) ∙ add-sub_cancel start (length s.literal))

-- the line of start and literal is the hit's
pub line_is : (l : Literals) (lines : List ℕ) (hit : ℕ × ℕ) (start : ℕ) (literal : List ℕ) → StartsAt l hit.0 hit.1 start → slice_get l.texts hit.0 ≡ Some literal
    → line_text start literal (unwrap_or (slice_get lines hit.0) 0) ≡ hit_line l lines hit
line_is l lines hit start literal starts stands =
    sym (ap (λ n. line_text n (literal_of l hit) (unwrap_or (slice_get lines hit.0) 0)) (start-is l hit start starts)
    ∙ ap (λ t. line_text start t (unwrap_or (slice_get lines hit.0) 0)) (literal-is l hit literal stands))
