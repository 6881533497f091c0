-- What a C program passes to make a plan, and the plan that it gets.
use Rattle.std.specs.Prelude.{◌≡◌, ℕ, ◌-◌, List, map, length, slice_index, Option, Some, None}
use Rattle.lit_base.specs.Flags.{flags_of, fold_of, profile_of}
use Rattle.lit_base.specs.Assignments.{NoAssignmentBelow}
use Rattle.lit_base.specs.NormalForm.{IsPlaceOf, normal_form}
use Rattle.std.specs.List.{AllZip}
use Rattle.lit_base.specs.Profiles.{buckets}
use Rattle.lit_plan.specs.Plans.{Plan}
use Rattle.list_plan.specs.Planned.{IsPlanned}
use Rattle.lit_base.specs.Literals.{lengths}
use Rattle.fiolargu.specs.declared.views.Bytes.{Bytes}
use Rattle.fiolargu.specs.declared.views.PlanInfo.{PlanInfo}

-- the patterns that C passes
abbrev pub bytes_of : List Bytes → List (List ℕ)
bytes_of patterns = map (λ p. p.bytes.now) patterns

-- a plan of the patterns by the flags: its literals are their normal form, it is the planner's, and no grouping costs
-- less
pub record IsPlanOf (flags : ℕ) (patterns : List (List ℕ)) (p : Plan) : Type 0 where
  pub literals : p.literals ≡ record { folding = fold_of flags; texts = normal_form (fold_of flags) patterns }
  pub planned : IsPlanned p.literals (profile_of flags) p.certificate
  pub least : NoAssignmentBelow (buckets (profile_of flags)) p.literals p.certificate.cost

-- the number by which C sees the place of a pattern: 2^32 - 1 where it has none
abbrev pub number_at : Option ℕ → ℕ
number_at None = 4294967295
number_at (Some place) = place

-- the numbers by which C sees the places of patterns among their literals
pub record AreNumbersOf (flags : ℕ) (patterns : List (List ℕ)) (numbers : List ℕ) : Type 0 where
  pub places : List (Option ℕ)
  pub are : AllZip (IsPlaceOf (fold_of flags) (normal_form (fold_of flags) patterns)) patterns places
  pub written : numbers ≡ map number_at places

-- what a plan has, as C sees it
pub record IsInfoOf (p : Plan) (info : PlanInfo) : Type 0 where
  pub literals : info.literals ≡ length p.literals.texts
  pub longest : info.longest ≡ slice_index (lengths p.literals) (length p.literals.texts - 1)
  pub cost : info.cost ≡ p.certificate.cost
  pub flags : info.flags ≡ flags_of p.literals.folding p.certificate.profile
  pub runs : info.runs ≡ length p.certificate.ends
