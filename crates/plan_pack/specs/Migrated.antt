-- Plans of sixteen buckets in place of others, and the file that the others come from.
use Rattle.std.specs.Prelude.{◌≡◌, ℕ, ◌+◌, ◌≤◌, true, false, List, [], ◌∷◌, ◌++◌, codes, decimal, Option, Some, None}
use Rattle.std.specs.List.{AllZip}
use Rattle.byte_io.specs.Sources.{Content}
use Rattle.lit_plan.specs.Plans.{Plan}
use Rattle.lit_base.specs.declared.profile.Profile.TheVariants.{Sixteen}
use Rattle.list_plan.specs.Planned.{IsPlanned}
use Rattle.plan_file.specs.declared.fault.Cause.{Cause}
use Rattle.plan_file.specs.FirstFaults.{IsFirstFault}
use Rattle.plan_file.specs.Spelling.{IsFile}
use Rattle.plan_pack.specs.declared.stop.Refusal.{Refusal}
use Rattle.plan_pack.specs.declared.stop.Refusal.TheVariants.{NoCertificate, NoLiterals, NoPlan, NoPlanFile, NotHex, Patterns, Unusable}

-- the plan of the same list, made anew for sixteen buckets, and no dearer
pub record IsMigrated (old new : Plan) : Type 0 where
  pub list : new.literals ≡ old.literals
  pub planned : IsPlanned new.literals Sixteen new.certificate
  pub cost : new.certificate.cost ≤ old.certificate.cost

-- one for each plan, in order
abbrev pub AreMigrated : List Plan → List Plan → Type 0
AreMigrated old new = AllZip IsMigrated old new

-- the line of the i-th plan: its cost, and the cost of the new one
abbrev pub migrated_line : ℕ → Plan → Plan → List ℕ
migrated_line i old new =
    codes "plan " ++ (decimal i ++ (codes " " ++ (decimal old.certificate.cost ++ (codes " " ++ (decimal new.certificate.cost ++ codes "\n")))))

-- the lines of plans, the first being the i-th
abbrev pub migrated_lines : ℕ → List Plan → List Plan → List ℕ
migrated_lines i [] new = []
migrated_lines i (p ∷ old) [] = []
migrated_lines i (p ∷ old) (q ∷ new) = migrated_line i p q ++ migrated_lines (i + 1) old new

-- the content is a plan file, and these are its plans
abbrev pub IsSourceOf : Option Content → List Plan → Type 0
IsSourceOf None plans = ⊥
IsSourceOf (Some c) plans = (c.is_faulty ≡ false) × IsFile c.text plans

-- the refusal says that the file of this name cannot be used
abbrev pub IsUnusable : List ℕ → Refusal → Type 0
IsUnusable name (Unusable n) = n.now ≡ name
IsUnusable name (Patterns fault) = ⊥
IsUnusable name (NotHex n line) = ⊥
IsUnusable name NoLiterals = ⊥
IsUnusable name (NoCertificate line) = ⊥
IsUnusable name (NoPlanFile place cause) = ⊥
IsUnusable name (NoPlan n place) = ⊥

-- The refusal of a content that is no plan file: it cannot be opened, or not be read to its end, or it is wrong. If
-- reading fails, the file is wrong only if it is wrong whatever would have followed; then either refusal is right.
pub data IsNoPlanFile (name : List ℕ) (source : Option Content) (refusal : Refusal) : Type 0 where
  Unopened : source ≡ None → IsUnusable name refusal → IsNoPlanFile name source refusal
  Unfinished : (c : Content) → source ≡ Some c → c.is_faulty ≡ true → IsUnusable name refusal → IsNoPlanFile name source refusal
  Unfit : (c : Content) (place : ℕ) (cause : Cause) → source ≡ Some c → IsFirstFault c.text place cause
      → (c.is_faulty ≡ true → (more : List ℕ) → IsFirstFault (c.text ++ more) place cause) → refusal ≡ NoPlanFile place cause → IsNoPlanFile name source refusal
