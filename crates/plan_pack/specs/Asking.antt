-- The files that are asked for, in order, where a plan file is made.
use Rattle.std.specs.Prelude.{◌≡◌, ℕ, Bool, true, false, List, [], ◌∷◌, codes, if◌then◌else◌, is_some}
use Rattle.std.specs.Str.{bytes_eq}
use Rattle.byte_io.specs.Sources.{Ask, Created, Sources, after, after_all, ask_of, taken_by, AsksPrefix}
use Rattle.plan_pack.specs.Lists.{plan_message}
use Rattle.plan_pack.specs.Migrated.{IsNoPlanFile, IsSourceOf}
use Rattle.plan_pack.specs.declared.notation.Reading.{Reading}
use Rattle.plan_pack.specs.declared.stop.Refusal.{Refusal}
use Rattle.lit_plan.specs.Plans.{Plan}

-- whether an operand is the file of this name; `-` is standard input
abbrev pub is_file : List ℕ → List ℕ → Bool
is_file operand name = if bytes_eq operand (codes "-") then false else bytes_eq operand name

-- whether the file of this name is one of the operands
abbrev pub reads_file : List (List ℕ) → List ℕ → Bool
reads_file [] name = false
reads_file (operand ∷ operands) name = if is_file operand name then true else reads_file operands name

-- the files of patterns until one gives no plan, and what comes once all have one
abbrev pub asks_for_plans : Reading → List (List ℕ) → List Ask → Sources → List Ask
asks_for_plans reading [] last s = last
asks_for_plans reading (name ∷ names) last s =
    ask_of name ∷ (if is_some (plan_message reading name (taken_by (ask_of name) s)) then [] else asks_for_plans reading names last (after (ask_of name) s))

-- to pack, nothing where the plan file is one of them, and else it comes last
abbrev pub pack_asks : Reading → List (List ℕ) → List ℕ → Sources → List Ask
pack_asks reading names output s = if reads_file names output then [] else asks_for_plans reading names (Created output ∷ []) s

-- of these, the files that are read
abbrev pub pack_reads : Reading → List (List ℕ) → List ℕ → Sources → List Ask
pack_reads reading names output s = if reads_file names output then [] else asks_for_plans reading names [] s

-- likewise the plan file that is read, and the new one once there are plans
abbrev pub migrate_asks : List ℕ → List ℕ → List Ask
migrate_asks input output = ask_of input ∷ Created output ∷ []

-- what migrating leaves: the other file is made only where there are plans
pub data LeavesMigrate (input output : List ℕ) (s left : Sources) : Type 0 where
  WithoutPlans : (refusal : Refusal) → IsNoPlanFile input (taken_by (ask_of input) s) refusal → left ≡ after (ask_of input) s
      → LeavesMigrate input output s left
  WithPlans : (plans : List Plan) → IsSourceOf (taken_by (ask_of input) s) plans → left ≡ after_all (migrate_asks input output) s
      → LeavesMigrate input output s left

-- this holds, unless memory ran out: then some of the reads were asked for, from their start, and nothing else
abbrev pub UnlessStarved : Bool → Type 0 → List Ask → Sources → Sources → Type 0
UnlessStarved false P reads s left = P
UnlessStarved true P reads s left = AsksPrefix reads s left

-- all asks were made; where memory ran out, reads alone
abbrev pub AsksAfterReads : Bool → List Ask → List Ask → Sources → Sources → Type 0
AsksAfterReads starved all reads s left = UnlessStarved starved (left ≡ after_all all s) reads s left

-- where all asks are reads: all were made, unless memory ran out
abbrev pub Asks : Bool → List Ask → Sources → Sources → Type 0
Asks starved reads s left = AsksAfterReads starved reads reads s left
