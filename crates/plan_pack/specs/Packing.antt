-- Making a plan file, and what a stop leaves of it.
use Rattle.std.specs.Prelude.{◌≡◌, ◌⊎◌, ℕ, Bool, true, false, List, [], ◌∷◌, ◌++◌, ⊤, IfErr, MatchOption, Option, Some, None, Result, Ok, Err}
use Rattle.std.specs.Option.{option_or}
use Rattle.byte_io.specs.Sources.{Sources, after, ask_of, can_create, taken_by}
use Rattle.lit_plan.specs.Plans.{Plan}
use Rattle.plan_pack.specs.Asking.{reads_file}
use Rattle.lit_base.specs.declared.profile.Profile.{Profile}
use Rattle.plan_pack.specs.Lists.{ArePlansOf, plan_message, plan_messages}
use Rattle.plan_pack.specs.Messages.{unusable}
use Rattle.plan_pack.specs.PlanFiles.{HoldsPrefix, HoldsPlans}
use Rattle.plan_pack.specs.Stops.{Explains, is_refusal}
use Rattle.plan_pack.specs.Taken.{NamesStop}
use Rattle.plan_pack.specs.declared.notation.Reading.{Reading}
use Rattle.plan_pack.specs.declared.stop.Stop.{Stop}
use Rattle.plan_pack.specs.declared.stop.Stop.TheVariants.{OutOfMemory}

-- the answer on a file that was to be made: the file; or a stop, with the file as far as it was made
abbrev pub Made : Type 0 → Type 0
Made O = Result O (Stop × Option O)

-- without the file as far as it was made
abbrev pub answer_of : {T O : Type 0} → Result T (Stop × Option O) → Result T Stop
answer_of (Ok made) = Ok made
answer_of (Err stopped) = Err stopped.0

-- what a stop leaves of a file for plans: it was made, where it can be, and holds a prefix; or memory ran out before; or
-- it cannot be made
abbrev pub LeavesFile : {O : Type 0} → (O → Option (List ℕ)) → List Plan → Bool → Stop → Option O → Type 0
LeavesFile written plans can stop (Some made) = (can ≡ true) × HoldsPrefix plans (written made)
LeavesFile written plans can stop None = (stop ≡ OutOfMemory) ⊎ ((can ≡ false) × (is_refusal stop ≡ true))

-- a file of this name was made, where it can be, and holds the plans; or the message, and the file as far as it was
-- made
abbrev pub MakesFile : {O : Type 0} → (O → Option (List ℕ)) → List Plan → List ℕ → Bool → Made O → Type 0
MakesFile written plans name can (Ok made) = (can ≡ true) × HoldsPlans plans (written made)
MakesFile written plans name can (Err stopped) = Explains stopped.0 (Some (unusable name)) × LeavesFile written plans can stopped.0 stopped.1

-- where memory ran out, no file was made
abbrev pub NoneIfStarved : {T O : Type 0} → Result T (Stop × Option O) → Type 0
NoneIfStarved r = IfErr r (λ stopped. stopped.0 ≡ OutOfMemory → stopped.1 ≡ None)

-- ---- from files of patterns

-- the bytes are the plan file of these plans and then of the plans of the files' lists
pub record HoldsPlansOf (reading : Reading) (profile : Profile) (before : List Plan) (names : List (List ℕ)) (s : Sources) (written : Option (List ℕ)) : Type 0 where
  pub plans : List Plan
  pub right : ArePlansOf reading profile names s plans
  pub holds : HoldsPlans (before ++ plans) written

-- a prefix of it, and not all of it
pub record HoldsPrefixOf (reading : Reading) (profile : Profile) (before : List Plan) (names : List (List ℕ)) (s : Sources) (written : Option (List ℕ)) : Type 0 where
  pub plans : List Plan
  pub right : ArePlansOf reading profile names s plans
  pub holds : HoldsPrefix (before ++ plans) written

-- files of patterns were asked for, the first at least where there is one, and nothing else
abbrev pub IsBefore : List (List ℕ) → Sources → Sources → Type 0
IsBefore [] s left = left ≡ s
IsBefore (name ∷ names) s left = (left ≡ after (ask_of name) s) ⊎ IsBefore names (after (ask_of name) s) left

-- what a stop leaves of the plan file: a prefix; or nothing, where one of the files gives no plan, or memory ran out
-- before it was made, or it cannot be made
abbrev pub LeavesPack : {O : Type 0} → (O → Option (List ℕ)) → Reading → Profile → List Plan → List (List ℕ) → List ℕ → Sources → Sources → Stop → Option O → Type 0
LeavesPack written reading profile before names output s left stop (Some made) =
    (plan_messages reading names s ≡ None) × (can_create output s.creatable ≡ true) × HoldsPrefixOf reading profile before names s (written made)
LeavesPack written reading profile before names output s left stop None =
    (IsBefore names s left × Explains stop (plan_messages reading names s)) ⊎ ((can_create output s.creatable ≡ false) × (is_refusal stop ≡ true))

-- a plan file was made of these plans and of the plans of the files, or the first message
abbrev pub MakesPack : {O : Type 0} → (O → Option (List ℕ)) → Reading → Profile → List Plan → List (List ℕ) → List ℕ → Sources → Sources → Made O → Type 0
MakesPack written reading profile before names output s left (Ok made) =
    (plan_messages reading names s ≡ None) × (can_create output s.creatable ≡ true) × HoldsPlansOf reading profile before names s (written made)
MakesPack written reading profile before names output s left (Err stopped) =
    Explains stopped.0 (option_or (plan_messages reading names s) (Some (unusable output)))
    × LeavesPack written reading profile before names output s left stopped.0 stopped.1

-- where patterns were refused, the refusal is the refusal of the first refused line of the first file that gives no
-- plan
abbrev pub NamesPack : Reading → List (List ℕ) → Sources → Stop → Type 0
NamesPack reading [] s stop = ⊤
NamesPack reading (name ∷ names) s stop =
    MatchOption (plan_message reading name (taken_by (ask_of name) s)) (NamesPack reading names (after (ask_of name) s) stop)
    (λ message. NamesStop reading (taken_by (ask_of name) s) stop)

-- A plan file was made of the plans of the files alone, unless it is one of the files. Then nothing is asked for, and
-- no memory is wanted.
pub data PacksFiles {O : Type 0} (written : O → Option (List ℕ)) (reading : Reading) (profile : Profile) (names : List (List ℕ)) (output : List ℕ) (s left : Sources) (r : Made O) : Type 0 where
  Own : (stop : Stop) → reads_file names output ≡ true → is_refusal stop ≡ true → Explains stop (Some (unusable output)) → left ≡ s → r ≡ Err (stop, None)
      → PacksFiles written reading profile names output s left r
  Other : reads_file names output ≡ false → MakesPack written reading profile [] names output s left r → PacksFiles written reading profile names output s left r
