-- A plan file that is made: from the plans to the file of them.
use Rattle.std.proofs.Common.{◌≡◌, ℕ, true, cond, List, [], ◌∷◌, ◌++◌, IfErr, MatchOption, Option, None, Some, Ok, Err, inl, inr, ◌-◌, ◌<◌, ◌≤◌, arith, drop, get_or, length, take, refl, sym, ap, subst, ◌∙◌, append_assoc, append-nil, take_all}
use Rattle.std.specs.Prelude.{String, map, string_bytes}
use Rattle.std.specs.Option.{option_or}
use Rattle.byte_io.specs.Devices.{IfKnown}
use Rattle.byte_io.specs.Sources.{AreShort, Ask, Content, Created, Named, Sources, Standard, after, ask_of, can_create, taken_by}
use Rattle.byte_io.proofs.OpenerLemmas.{short-after}
use Rattle.byte_io.proofs.KnownLemmas.{IfKnown-none, IfKnown-then, IfKnown-weaker}
use Rattle.lit_plan.specs.Plans.{Plan}
use Rattle.plan_pack.specs.Asking.{AsksAfterReads, asks_for_plans, pack_asks, pack_reads, reads_file}
use Rattle.lit_base.specs.declared.profile.Profile.{Profile}
use Rattle.plan_pack.specs.Lists.{IsPlanOf, list_in, plan_message, plan_messages}
use Rattle.plan_pack.specs.Messages.{unusable}
use Rattle.plan_pack.specs.Packing.{Made, MakesFile, MakesPack, NamesPack, Own, PacksFiles, answer_of}
use Rattle.plan_pack.specs.PlanFiles.{HoldsPrefix, HoldsPlans}
use Rattle.plan_pack.specs.Stops.{Explains, is_refusal, is_starved, ran_out}
use Rattle.plan_pack.specs.Taken.{NamesStop, TakesPlan}
use Rattle.plan_pack.specs.declared.notation.Reading.{Reading}
use Rattle.plan_pack.specs.declared.stop.Stop.{Stop}
use Rattle.plan_pack.specs.declared.stop.Stop.TheVariants.{OutOfMemory, Refused}
use Rattle.plan_pack.proofs.AskLemmas.{asks-all, asks-more, asks-stopped, none-asked, same-asks}

-- no ask changes under which names files can be made
pub same-creatable : (ask : Ask) (s : Sources) → (after ask s).creatable ≡ s.creatable
same-creatable (Named name) s = refl
same-creatable Standard s = refl
same-creatable (Created name) s = refl

-- the message that comes first explains a stop also where another would follow
first-explains : (stop : Stop) (reason later : Option (List ℕ)) → Explains stop reason → Explains stop (option_or reason later)
first-explains (Refused refusal) None later e = (cc)
first-explains (Refused refusal) (Some text) later e = e
first-explains OutOfMemory reason later e = tt

-- the plan file of these plans and then of those of the files is asked for and made, once the files are read
abbrev pub AsksAndMakes : {O : Type 0} → (O → Option (List ℕ)) → Reading → Profile → List Plan → List (List ℕ) → List ℕ → Sources → Sources → Made O → Type 0
AsksAndMakes written reading profile before names output s left r =
    AsksAfterReads (ran_out (answer_of r)) (asks_for_plans reading names (Created output ∷ []) s) (asks_for_plans reading names [] s) s left
    × MakesPack written reading profile before names output s left r

-- ---- the file of plans behind no further files

pub packs-made : {O : Type 0} (written : O → Option (List ℕ)) (reading : Reading) (profile : Profile) (before : List Plan) (output : List ℕ) (s left : Sources) (r : Made O)
    → AsksAfterReads (ran_out (answer_of r)) (Created output ∷ []) [] s left → MakesFile written before output (can_create output s.creatable) r
    → MakesPack written reading profile before [] output s left r
packs-made written reading profile before output s left (Ok made) asks makes =
    (refl, makes.0, record { plans = []; right = refl; holds = subst (λ ps. HoldsPlans ps (written made)) (sym (append-nil before)) makes.1 })
packs-made written reading profile before output s left (Err (stop, Some made)) asks makes =
    (makes.0, (refl, makes.1.0, record { plans = []; right = refl; holds = subst (λ ps. HoldsPrefix ps (written made)) (sym (append-nil before)) makes.1.1 }))
packs-made written reading profile before output s left (Err (OutOfMemory, None)) asks makes = (tt, inl (none-asked s left asks, tt))
packs-made written reading profile before output s left (Err (Refused refusal, None)) asks (why, inl starved) = absurd (cc)
packs-made written reading profile before output s left (Err (Refused refusal, None)) asks (why, inr cannot) = (why, inr cannot)

pub pack-made : {O : Type 0} (written : O → Option (List ℕ)) (reading : Reading) (profile : Profile) (before : List Plan) (output : List ℕ) (known left : Option Sources) (r : Made O)
    → IfKnown known left (λ s l. AsksAfterReads (ran_out (answer_of r)) (Created output ∷ []) [] s l × MakesFile written before output (can_create output s.creatable) r)
    → IfKnown known left (λ s l. AreShort s → AsksAndMakes written reading profile before [] output s l r)
pack-made written reading profile before output known left r makes =
    IfKnown-weaker known left _ (λ s l. AreShort s → AsksAndMakes written reading profile before [] output s l r) makes (λ s l h short.
    (h.0, packs-made written reading profile before output s l r h.0 h.1))

-- ---- one file of patterns, and those behind it

packs-next : {O : Type 0} (written : O → Option (List ℕ)) (reading : Reading) (profile : Profile) (before : List Plan) (file : List ℕ) (names : List (List ℕ)) (output : List ℕ) (s left : Sources) (plan : Plan) (r : Made O)
    → plan_message reading file (taken_by (ask_of file) s) ≡ None → IsPlanOf profile (list_in reading (taken_by (ask_of file) s)) plan
    → MakesPack written reading profile (before ++ plan ∷ []) names output (after (ask_of file) s) left r → MakesPack written reading profile before (file ∷ names) output s left r
packs-next written reading profile before file names output s left plan (Ok made) none right makes = (
  ap (λ m. option_or m (plan_messages reading names (after (ask_of file) s))) none ∙ makes.0,
  ap (can_create output) (sym (same-creatable (ask_of file) s)) ∙ makes.1,
  record {
    plans = plan ∷ makes.2.plans;
    right = (right, makes.2.right);
    holds = subst (λ ps. HoldsPlans ps (written made)) (append_assoc before (plan ∷ []) makes.2.plans) makes.2.holds;
  },
)
packs-next written reading profile before file names output s left plan (Err (stop, Some made)) none right makes =
    let first : option_or (plan_message reading file (taken_by (ask_of file) s)) (plan_messages reading names (after (ask_of file) s)) ≡ plan_messages reading names (after (ask_of file) s) =
    ap (λ m. option_or m (plan_messages reading names (after (ask_of file) s))) none in (
      subst (λ m. Explains stop (option_or m (Some (unusable output)))) (sym first) makes.0,
      (
        first ∙ makes.1.0,
        ap (can_create output) (sym (same-creatable (ask_of file) s)) ∙ makes.1.1,
        record {
          plans = plan ∷ makes.1.2.plans;
          right = (right, makes.1.2.right);
          holds = subst (λ ps. HoldsPrefix ps (written made)) (append_assoc before (plan ∷ []) makes.1.2.plans) makes.1.2.holds;
        },
      ),
    )
packs-next written reading profile before file names output s left plan (Err (stop, None)) none right (why, inl kept) =
    let first : option_or (plan_message reading file (taken_by (ask_of file) s)) (plan_messages reading names (after (ask_of file) s)) ≡ plan_messages reading names (after (ask_of file) s) =
    ap (λ m. option_or m (plan_messages reading names (after (ask_of file) s))) none in (
      subst (λ m. Explains stop (option_or m (Some (unusable output)))) (sym first) why,
      inl (inr kept.0, subst (λ m. Explains stop m) (sym first) kept.1),
    )
packs-next written reading profile before file names output s left plan (Err (stop, None)) none right (why, inr cannot) =
    let first : option_or (plan_message reading file (taken_by (ask_of file) s)) (plan_messages reading names (after (ask_of file) s)) ≡ plan_messages reading names (after (ask_of file) s) =
    ap (λ m. option_or m (plan_messages reading names (after (ask_of file) s))) none in (
      subst (λ m. Explains stop (option_or m (Some (unusable output)))) (sym first) why,
      inr (ap (can_create output) (sym (same-creatable (ask_of file) s)) ∙ cannot.0, cannot.1),
    )

-- the plan file of patterns that have a plan
pub pack-next : {O : Type 0} (written : O → Option (List ℕ)) (reading : Reading) (profile : Profile) (before : List Plan) (file : List ℕ) (names : List (List ℕ)) (output : List ℕ) (known mid left : Option Sources) (plan : Plan) (r : Made O)
    → IfKnown known mid (λ s m. AreShort s → (m ≡ after (ask_of file) s) × TakesPlan reading profile file (taken_by (ask_of file) s) (Ok plan))
    → IfKnown mid left (λ m l. AreShort m → AsksAndMakes written reading profile (before ++ plan ∷ []) names output m l r)
    → IfKnown known left (λ s l. AreShort s → AsksAndMakes written reading profile before (file ∷ names) output s l r)
pack-next written reading profile before file names output known mid left plan r taken_from makes =
    IfKnown-then known mid left _ _ (λ s l. AreShort s → AsksAndMakes written reading profile before (file ∷ names) output s l r) taken_from makes (λ s m l h g short.
    let taken = h short in
    let rest = g (subst AreShort (sym taken.0) (short-after (ask_of file) s short)) in
    let here = subst (λ x. AsksAndMakes written reading profile (before ++ plan ∷ []) names output x l r) taken.0 rest in
    let more : List Ask = asks_for_plans reading names (Created output ∷ []) (after (ask_of file) s) in
    let reads : List Ask = asks_for_plans reading names [] (after (ask_of file) s) in
    let message : Option (List ℕ) = plan_message reading file (taken_by (ask_of file) s) in (
      same-asks (ran_out (answer_of r)) (ask_of file) more reads message s l taken.1.0 (asks-more (ran_out (answer_of r)) (ask_of file) more reads s l here.0),
      packs-next written reading profile before file names output s l plan r taken.1.0 taken.1.1 here.1,
    ))

-- and of patterns that have none
pub pack-stopped : {O : Type 0} (written : O → Option (List ℕ)) (reading : Reading) (profile : Profile) (before : List Plan) (file : List ℕ) (names : List (List ℕ)) (output : List ℕ) (known mid : Option Sources) (stop : Stop)
    → IfKnown known mid (λ s left. AreShort s → (left ≡ after (ask_of file) s) × TakesPlan reading profile file (taken_by (ask_of file) s) (Err stop))
    → IfKnown known mid (λ s left. AreShort s → AsksAndMakes {O = O} written reading profile before (file ∷ names) output s left (Err (stop, None)))
pack-stopped {O} written reading profile before file names output known mid stop reads =
    IfKnown-weaker known mid _ (λ s left. AreShort s → AsksAndMakes {O = O} written reading profile before (file ∷ names) output s left (Err (stop, None))) reads (λ s left h short.
    let taken = h short in
    let message : Option (List ℕ) = plan_message reading file (taken_by (ask_of file) s) in
    let others : Option (List ℕ) = plan_messages reading names (after (ask_of file) s) in
    let first : Explains stop (option_or message others) = first-explains stop message others taken.1 in (
      asks-stopped file (asks_for_plans reading names (Created output ∷ []) (after (ask_of file) s)) (asks_for_plans reading names [] (after (ask_of file) s)) message stop s left taken.1 taken.0,
      (first-explains stop (option_or message others) (Some (unusable output)) first, inl (inl taken.0, first)),
    ))

-- memory ran out behind a plan
pub pack-starved : {O : Type 0} (written : O → Option (List ℕ)) (reading : Reading) (profile : Profile) (before : List Plan) (file : List ℕ) (names : List (List ℕ)) (output : List ℕ) (known mid : Option Sources) (plan : Plan)
    → IfKnown known mid (λ s left. AreShort s → (left ≡ after (ask_of file) s) × TakesPlan reading profile file (taken_by (ask_of file) s) (Ok plan))
    → IfKnown known mid (λ s left. AreShort s → AsksAndMakes {O = O} written reading profile before (file ∷ names) output s left (Err (OutOfMemory, None)))
pack-starved {O} written reading profile before file names output known mid plan reads =
    pack-stopped {O = O} written reading profile before file names output known mid OutOfMemory
    (IfKnown-weaker known mid _ (λ s left. AreShort s → (left ≡ after (ask_of file) s) × TakesPlan reading profile file (taken_by (ask_of file) s) (Err OutOfMemory)) reads (λ s left h short. ((h short).0, tt)))

-- the same of the names of files that have such a list
pub packs-of : {O : Type 0} (written : O → Option (List ℕ)) (reading : Reading) (profile : Profile) (before : List Plan) (all names : List (List ℕ)) (output : List ℕ) (known left : Option Sources) (r : Made O)
    → all ≡ names
    → IfKnown known left (λ s l. AreShort s → AsksAndMakes written reading profile before names output s l r)
    → IfKnown known left (λ s l. AreShort s → AsksAndMakes written reading profile before all output s l r)
packs-of written reading profile before all names output known left r same makes =
    subst (λ xs. IfKnown known left (λ s l. AreShort s → AsksAndMakes written reading profile before xs output s l r)) (sym same) makes

-- none is left of them
pub names-none : {Z : Type 0} (names : List (String Z)) → length names < 1 → map string_bytes names ≡ []
names-none [] none = refl
names-none (name ∷ names) none = absurd (omega arith)

-- the first of them, and the rest
pub names-first : {Z : Type 0} (names : List (String Z)) (item default : String Z) (file : List ℕ) → 1 ≤ length names → item ≡ get_or names 0 default → file ≡ string_bytes item
    → map string_bytes names ≡ file ∷ map string_bytes (take (length names - 1) (drop 1 names))
names-first [] item default file some is same = absurd (omega arith)
names-first (name ∷ rest) item default file some is same =
    let all : take (length (name ∷ rest) - 1) (drop 1 (name ∷ rest)) ≡ rest = take_all (length (name ∷ rest) - 1) rest (omega arith) in
    ap (λ n. n ∷ map string_bytes rest) (sym (same ∙ ap string_bytes is)) ∙ ap (λ xs. file ∷ map string_bytes xs) (sym all)

-- ---- files of patterns, unless one of them is the plan file

pub pack-own : {O : Type 0} (written : O → Option (List ℕ)) (reading : Reading) (profile : Profile) (names : List (List ℕ)) (output : List ℕ) (known : Option Sources) (stop : Stop)
    → reads_file names output ≡ true → is_refusal stop ≡ true → Explains stop (Some (unusable output))
    → IfKnown known known (λ s l. AreShort s → AsksAfterReads (is_starved stop) (pack_asks reading names output s) (pack_reads reading names output s) s l × PacksFiles {O = O} written reading profile names output s l (Err (stop, None)))
pack-own {O} written reading profile names output known stop own refused why =
    IfKnown-none known (λ s l. AreShort s → AsksAfterReads (is_starved stop) (pack_asks reading names output s) (pack_reads reading names output s) s l × PacksFiles {O = O} written reading profile names output s l (Err (stop, None))) (λ s short. (
      subst (λ b. AsksAfterReads (is_starved stop) (cond b [] (asks_for_plans reading names (Created output ∷ []) s)) (cond b [] (asks_for_plans reading names [] s)) s s) (sym own) (asks-all (is_starved stop) [] s s refl),
      Own stop own refused why refl refl,
    ))

-- ---- which line was refused

-- none, where the stop names no line
names-none-refused : (reading : Reading) (names : List (List ℕ)) (s : Sources) (stop : Stop) → ((source : Option Content) → NamesStop reading source stop) → NamesPack reading names s stop
names-none-refused reading [] s stop any = tt
names-none-refused reading (name ∷ names) s stop any =
    elim (plan_message reading name (taken_by (ask_of name) s)) as (λ m. MatchOption m (NamesPack reading names (after (ask_of name) s) stop) (λ message. NamesStop reading (taken_by (ask_of name) s) stop)) [
      | None ↦ names-none-refused reading names (after (ask_of name) s) stop any
      | Some message ↦ any (taken_by (ask_of name) s)
    ]

-- one of a later file, where the first gives a plan
names-later : (reading : Reading) (file : List ℕ) (names : List (List ℕ)) (s : Sources) (stop : Stop) → plan_message reading file (taken_by (ask_of file) s) ≡ None
    → NamesPack reading names (after (ask_of file) s) stop → NamesPack reading (file ∷ names) s stop
names-later reading file names s stop none later =
    subst (λ (m : Option (List ℕ)). MatchOption m (NamesPack reading names (after (ask_of file) s) stop) (λ message. NamesStop reading (taken_by (ask_of file) s) stop)) (sym none) later

-- one of the first file, where that gives none
names-here : (reading : Reading) (file : List ℕ) (names : List (List ℕ)) (s : Sources) (stop : Stop) → Explains stop (plan_message reading file (taken_by (ask_of file) s))
    → NamesStop reading (taken_by (ask_of file) s) stop → NamesPack reading (file ∷ names) s stop
names-here reading file names s (Refused refusal) e here =
    subst (λ (m : Option (List ℕ)). MatchOption m (NamesPack reading names (after (ask_of file) s) (Refused refusal)) (λ message. NamesStop reading (taken_by (ask_of file) s) (Refused refusal))) (sym e) here
names-here reading file names s OutOfMemory e here = names-none-refused reading (file ∷ names) s OutOfMemory (λ source. tt)

-- of no file but the plan file
pub pack-named-own : (reading : Reading) (names : List (List ℕ)) (known : Option Sources) (stop : Stop) → ((source : Option Content) → NamesStop reading source stop)
    → IfKnown known known (λ s l. AreShort s → NamesPack reading names s stop)
pack-named-own reading names known stop any = IfKnown-none known (λ s l. AreShort s → NamesPack reading names s stop) (λ s short. names-none-refused reading names s stop any)

-- behind the last file
pub pack-named-made : {O : Type 0} (reading : Reading) (names : List (List ℕ)) (known left : Option Sources) (P : Sources → Sources → Type 0) (r : Made O) → names ≡ [] → IfKnown known left P
    → IfErr r (λ stopped. IfKnown known left (λ s l. AreShort s → NamesPack reading names s stopped.0))
pack-named-made reading names known left P (Ok made) none makes = tt
pack-named-made reading names known left P (Err stopped) none makes =
    IfKnown-weaker known left P (λ s l. AreShort s → NamesPack reading names s stopped.0) makes (λ s l p short. subst (λ (ns : List (List ℕ)). NamesPack reading ns s stopped.0) (sym none) tt)

-- behind a file that gives a plan
pub pack-named-next : {O : Type 0} (reading : Reading) (profile : Profile) (all : List (List ℕ)) (file : List ℕ) (names : List (List ℕ)) (known mid left : Option Sources) (plan : Plan) (r : Made O)
    → all ≡ file ∷ names
    → IfKnown known mid (λ s m. AreShort s → (m ≡ after (ask_of file) s) × TakesPlan reading profile file (taken_by (ask_of file) s) (Ok plan))
    → IfErr r (λ stopped. IfKnown mid left (λ m l. AreShort m → NamesPack reading names m stopped.0))
    → IfErr r (λ stopped. IfKnown known left (λ s l. AreShort s → NamesPack reading all s stopped.0))
pack-named-next reading profile all file names known mid left plan (Ok made) same reads named = tt
pack-named-next reading profile all file names known mid left plan (Err stopped) same reads named =
    IfKnown-then known mid left _ _ (λ s l. AreShort s → NamesPack reading all s stopped.0) reads named (λ s m l h g short.
    let taken = h short in
    let later = g (subst AreShort (sym taken.0) (short-after (ask_of file) s short)) in
    subst (λ (ns : List (List ℕ)). NamesPack reading ns s stopped.0) (sym same)
    (names-later reading file names s stopped.0 taken.1.0 (subst (λ (x : Sources). NamesPack reading names x stopped.0) taken.0 later)))

-- at a file that gives none
pub pack-named-stopped : (reading : Reading) (profile : Profile) (all : List (List ℕ)) (file : List ℕ) (names : List (List ℕ)) (known mid : Option Sources) (stop : Stop)
    → all ≡ file ∷ names
    → IfKnown known mid (λ s left. AreShort s → (left ≡ after (ask_of file) s) × TakesPlan reading profile file (taken_by (ask_of file) s) (Err stop))
    → IfKnown known mid (λ s left. AreShort s → NamesStop reading (taken_by (ask_of file) s) stop)
    → IfKnown known mid (λ s left. AreShort s → NamesPack reading all s stop)
pack-named-stopped reading profile all file names None mid stop same reads named = tt
pack-named-stopped reading profile all file names (Some s) None stop same reads named = absurd reads
pack-named-stopped reading profile all file names (Some s) (Some m) stop same reads named = λ short.
    subst (λ (ns : List (List ℕ)). NamesPack reading ns s stop) (sym same) (names-here reading file names s stop (reads short).1 (named short))

-- where memory ran out
pub pack-named-starved : (reading : Reading) (names : List (List ℕ)) (known mid : Option Sources) (P : Sources → Sources → Type 0) → IfKnown known mid P
    → IfKnown known mid (λ s left. AreShort s → NamesPack reading names s OutOfMemory)
pack-named-starved reading names known mid P reads =
    IfKnown-weaker known mid P (λ s left. AreShort s → NamesPack reading names s OutOfMemory) reads (λ s left p short. names-none-refused reading names s OutOfMemory (λ source. tt))
