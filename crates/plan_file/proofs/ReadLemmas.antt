-- The promises on a device, by the answer made of the bytes that it gave.
use Rattle.std.proofs.Common.{◌≡◌, ◌≢◌, ℕ, ◌^◌, ◌<◌, List, [], ◌++◌, length, Option, Some, None, Result, Ok, Err, refl, sym, ap, subst, ◌∙◌, append_assoc, arith}
use Rattle.std.specs.Option.{IfSome}
use Rattle.std.specs.Result.{IfErr, IfOk, IsOkAnd, IsOkUnless, OnOk}
use Rattle.std.proofs.lemmas.List.{length-append}
use Rattle.std.proofs.lemmas.Result.{IfErr-at_err}
use Rattle.byte_io.specs.Devices.{Coming, Clean, Faulty, EndsHere, IfKnown}
use Rattle.byte_io.specs.Transfers.{FaultFollows, ReadsInto}
use Rattle.lit_plan.specs.Plans.{Plan}
use Rattle.plan_file.specs.declared.fault.Cause.{Cause}
use Rattle.plan_file.specs.declared.fault.Fault.{Fault}
use Rattle.plan_file.specs.declared.fault.Fault.TheVariants.{OutOfMemory, BadPlanFile, ReadFault, WriteFault}
use Rattle.plan_file.specs.Faults.{IfBadFile}
use Rattle.plan_file.specs.FirstFaults.{IsFirstFault}
use Rattle.plan_file.specs.Spelling.{IsFile}
use Rattle.plan_file.proofs.LongLemmas.{IsLong, first_longer, none_spells, spelled_short}
use Rattle.plan_file.proofs.OneWay.{one_fault}

-- the plans are the plans of the text
abbrev pub Spells : {X : Type 0} → (X → List Plan) → List ℕ → Result X Fault → Type 0
Spells items text r = IfOk r (λ v. IsFile text (items v))

abbrev bad_file : {X : Type 0} → ℕ → Cause → Result X Fault
bad_file place cause = Err (BadPlanFile place cause)

-- what came begins with the prefix that was read
came_is : (x y : Coming) (before text : List ℕ) → before ≡ [] → (r : ReadsInto (Some x) (Some y) before text) → x.text ≡ text ++ y.text
came_is x y before text empty r =
    let bytes : text ≡ r.bytes = subst (λ (b : List ℕ). text ≡ b ++ r.bytes) empty r.text in
    r.given.text ∙ ap (λ (t : List ℕ). t ++ y.text) (sym bytes)

-- nothing is read of too many bytes
pub found_long : {X : Type 0} (items : X → List Plan) (old new : Option Coming) (before text : List ℕ) (r : Result X Fault) → IsLong text → ReadsInto old new before text → Spells items text r
    → IfKnown old new (λ x y. IfOk r (λ v. IsFile x.text (items v) × EndsHere y))
found_long items None new before text r long reads found = tt
found_long items (Some x) None before text r long reads found = absurd reads.given
found_long items (Some x) (Some y) before text (Ok v) long reads found = absurd (none_spells text (items v) long found)
found_long items (Some x) (Some y) before text (Err e) long reads found = tt

pub ending_long : {X : Type 0} (items : X → List Plan) (old : Option Coming) (text : List ℕ) (r : Result X Fault) → IsLong text → Spells items text r → IfSome old (λ x. OnOk r (x.ending ≢ Faulty))
ending_long items None text r long found = tt
ending_long items (Some x) text (Ok v) long found = absurd (none_spells text (items v) long found)
ending_long items (Some x) text (Err e) long found = tt

-- what came is no file then
pub only_long : (Q : List Plan → Type 0) (old new : Option Coming) (before text : List ℕ) → before ≡ [] → IsLong text → ReadsInto old new before text
    → IfSome old (λ x. x.ending ≡ Clean → (plans : List Plan) → IsFile x.text plans → Q plans)
only_long Q None new before text empty long reads = tt
only_long Q (Some x) None before text empty long reads = absurd reads.given
only_long Q (Some x) (Some y) before text empty long reads =
    λ clean plans f. absurd (too_long plans f)
  where
    too_long : (plans : List Plan) → IsFile x.text plans → ⊥
    too_long plans f = omega (arith, spelled_short x.text plans f, long, ap length (came_is x y before text empty reads), length-append text y.text)

-- no read fails where a file comes cleanly
pub only_failed : (Q : List Plan → Type 0) (limit : ℕ) (old : Option Coming) (before text : List ℕ) → IfSome old (λ x. length x.text < 2 ^ 40 → FaultFollows limit before text x)
    → IfSome old (λ x. x.ending ≡ Clean → (plans : List Plan) → IsFile x.text plans → Q plans)
only_failed Q limit None before text failed = tt
only_failed Q limit (Some x) before text failed =
    λ clean plans f. absurd ((failed (short plans f)).ending clean)
  where
    short : (plans : List Plan) → IsFile x.text plans → length x.text < 2 ^ 40
    short plans f = omega (arith, spelled_short x.text plans f)

-- the first fault of the prefix is the first fault of all bytes
pub wrong_long : {X : Type 0} (old new : Option Coming) (before text : List ℕ) (r : Result X Fault) → before ≡ [] → IsLong text → ReadsInto old new before text → IfErr r (IfBadFile (IsFirstFault text))
    → IfSome old (λ x. (place : ℕ) (cause : Cause) → r ≡ Err (BadPlanFile place cause) → IsFirstFault x.text place cause)
wrong_long None new before text r empty long reads wrong = tt
wrong_long (Some x) None before text r empty long reads wrong = absurd reads.given
wrong_long (Some x) (Some y) before text r empty long reads wrong = λ place cause is.
    subst (λ (t : List ℕ). IsFirstFault t place cause) (sym (came_is x y before text empty reads)) (first_longer text y.text place cause long (IfErr-at_err (IfBadFile (IsFirstFault text)) is wrong))

-- whatever would have followed
pub shown_long : {X : Type 0} (old new : Option Coming) (before text : List ℕ) (r : Result X Fault) → before ≡ [] → IsLong text → ReadsInto old new before text → IfErr r (IfBadFile (IsFirstFault text))
    → IfSome old (λ x. x.ending ≡ Faulty → (place : ℕ) (cause : Cause) → r ≡ Err (BadPlanFile place cause) → (more : List ℕ) → IsFirstFault (x.text ++ more) place cause)
shown_long None new before text r empty long reads wrong = tt
shown_long (Some x) None before text r empty long reads wrong = absurd reads.given
shown_long (Some x) (Some y) before text r empty long reads wrong = λ faulty place cause is more.
    let all : x.text ++ more ≡ text ++ (y.text ++ more) = ap (λ (t : List ℕ). t ++ more) (came_is x y before text empty reads) ∙ append_assoc text y.text more in
    subst (λ (t : List ℕ). IsFirstFault t place cause) (sym all) (first_longer text (y.text ++ more) place cause long (IfErr-at_err (IfBadFile (IsFirstFault text)) is wrong))

-- and is returned
pub exact_long : {X : Type 0} (items : X → List Plan) (old new : Option Coming) (before text : List ℕ) (r : Result X Fault) → before ≡ [] → IsLong text → ReadsInto old new before text → Spells items text r → IfErr r (IfBadFile (IsFirstFault text))
    → IfSome old (λ x. x.ending ≡ Clean → length x.text < 2 ^ 40 → (place : ℕ) (cause : Cause) → IsFirstFault x.text place cause → r ≢ Err OutOfMemory → r ≡ Err (BadPlanFile place cause))
exact_long items None new before text r empty long reads found wrong = tt
exact_long items (Some x) None before text r empty long reads found wrong = absurd reads.given
exact_long items (Some x) (Some y) before text (Ok v) empty long reads found wrong = λ clean short place cause first memory. absurd (none_spells text (items v) long found)
exact_long items (Some x) (Some y) before text (Err OutOfMemory) empty long reads found wrong = λ clean short place cause first memory. absurd (memory refl)
exact_long items (Some x) (Some y) before text (Err (BadPlanFile p c)) empty long reads found wrong = λ clean short place cause first memory.
    one_fault bad_file x.text p place c cause (subst (λ (t : List ℕ). IsFirstFault t p c) (sym (came_is x y before text empty reads)) (first_longer text y.text p c long wrong)) first
exact_long items (Some x) (Some y) before text (Err ReadFault) empty long reads found wrong = absurd wrong
exact_long items (Some x) (Some y) before text (Err WriteFault) empty long reads found wrong = absurd wrong

-- a file that is read unless memory runs out is read as its plans
pub read_same : {X : Type 0} (items : X → List Plan) (plans : List Plan) (r : Result X Fault) → (r ≢ Err OutOfMemory → IsOkAnd r (λ v. items v ≡ plans)) → IfOk r (λ v. items v ≡ plans)
read_same items plans (Ok v) only = only (λ e. absurd cc)
read_same items plans (Err e) only = tt

-- and refused only for want of it
pub read_unless : {X : Type 0} (items : X → List Plan) (plans : List Plan) (r : Result X Fault) → (r ≢ Err OutOfMemory → IsOkAnd r (λ v. items v ≡ plans)) → IsOkUnless r OutOfMemory
read_unless items plans (Ok v) only = tt
read_unless items plans (Err OutOfMemory) only = refl
read_unless items plans (Err (BadPlanFile place cause)) only = absurd (only (λ e. absurd cc))
read_unless items plans (Err ReadFault) only = absurd (only (λ e. absurd cc))
read_unless items plans (Err WriteFault) only = absurd (only (λ e. absurd cc))
