-- A first fault that is no want of bytes stays the first one, whatever follows; and so does each one of a text that is
-- longer than any file.
use Rattle.std.proofs.Common.{◌≡◌, ◌≢◌, ℕ, zero, suc, ◌+◌, ◌-◌, ◌*◌, ◌<◌, ◌≤◌, List, [], ◌∷◌, ◌++◌, length, inl, inr, refl, ap, subst, ◌∙◌, append_assoc, arith}
use Rattle.std.specs.List.{flat_map, AllByRecursion}
use Rattle.std.proofs.lemmas.List.{length-append}
use Rattle.lit_plan.specs.Plans.{Plan}
use Rattle.plan_file.specs.declared.fault.Cause.{Cause}
use Rattle.plan_file.specs.declared.fault.Cause.TheVariants.{Short, Trailing}
use Rattle.plan_file.specs.declared.fault.Wrong.{Wrong}
use Rattle.plan_file.specs.declared.version.Version.{Version}
use Rattle.plan_file.specs.FirstBad.{FitsHead, head_fields}
use Rattle.plan_file.specs.FirstFaults.{IsFirstFault, IsWrong, IsWrongNext}
use Rattle.plan_file.specs.Spelling.{plan_text, head_text, BeginsFile, IsFile, IsPlan}
use Rattle.plan_file.proofs.DeviceLemmas.{length-head_text}
use Rattle.plan_file.proofs.EntryParts.{longer_entry, most_bytes, plan_len}
use Rattle.plan_file.proofs.ListParts.{shift_at, whole_fewer, whole_rest}
use Rattle.plan_file.proofs.OneWay.{by_recursion, none_first}
use Rattle.plan_file.proofs.PartLemmas.{Whole, longer_bad, shift}
use Rattle.plan_file.proofs.Parts.{head_steady}

abbrev at_left : Cause → ℕ → Wrong
at_left cause left = record { left = left; cause = cause }

plans_len : (version : Version) (ps : List Plan) → AllByRecursion (IsPlan version) ps → length (flat_map plan_text ps) ≤ most_bytes * length ps
plans_len version [] all = omega arith
plans_len version (p ∷ ps) all = omega (arith, plan_len version p all.0, plans_len version ps all.1, length-append (plan_text p) (flat_map plan_text ps))

-- no file has more bytes
abbrev pub file_bytes : ℕ
file_bytes = 101190408

-- a text longer than any file
abbrev pub IsLong : List ℕ → Type 0
IsLong text = 101190408 < length text

-- a bound of the bytes of a file
pub spelled_short : (text : List ℕ) (plans : List Plan) → IsFile text plans → length text ≤ 101190408
spelled_short text plans f =
    let head = head_text f.version (length plans) in
    omega (arith, ap length f.file.spelled, length-append head (flat_map plan_text plans), length-head_text f.version (length plans), plans_len f.version plans (by_recursion f.version plans f.file.are.each), f.file.are.few)

-- a file is not so long
pub none_spells : (text : List ℕ) (plans : List Plan) → IsLong text → IsFile text plans → ⊥
none_spells text plans long f = omega (arith, spelled_short text plans f, long)

append_some : (xs ys : List ℕ) → xs ≢ [] → xs ++ ys ≢ []
append_some [] ys some e = some refl
append_some (x ∷ xs) ys some e = absurd (omega (arith, ap length e))

next_longer : (version : Version) (missing : ℕ) (rest tail : List ℕ) (w : Wrong) → (0 < missing → Whole most_bytes rest w) → IsWrongNext version missing rest w → IsWrongNext version missing (rest ++ tail) (shift (length tail) w)
next_longer version zero rest tail w whole h = (append_some rest tail h.0, ap (shift (length tail)) h.1 ∙ shift_at Trailing rest tail)
next_longer version (suc missing) rest tail w whole h = longer_entry version rest tail w (whole (omega arith)) h

-- a whole fault of a prefix is a fault of the text
wrong_longer : (prefix tail : List ℕ) (w : Wrong) → Whole file_bytes prefix w → IsWrong prefix w → IsWrong (prefix ++ tail) (shift (length tail) w)
wrong_longer prefix tail w whole (inl bad) = inl (longer_bad FitsHead head_fields head_steady 8 (λ head fits. omega arith) prefix tail w (whole_fewer 8 file_bytes prefix w (omega arith) whole) bad)
wrong_longer prefix tail w whole (inr h) =
    let after = h.wrong in
    let head = head_text h.version h.count in
    let plans = flat_map plan_text after.plans in
    let size : length plans ≤ most_bytes * length after.plans = plans_len h.version after.plans (by_recursion h.version after.plans after.each) in
    let enough : 0 < h.count - length after.plans → file_bytes ≤ length prefix → most_bytes ≤ length after.rest =
    λ some le. omega (arith, some, le, h.few, size, ap length h.text_is, length-append head h.rest, length-head_text h.version h.count, ap length after.text_is, length-append plans after.rest) in
    inr (record {
      version = h.version;
      count = h.count;
      few = h.few;
      rest = h.rest ++ tail;
      text_is = ap (λ (t : List ℕ). t ++ tail) h.text_is ∙ append_assoc head h.rest tail;
      wrong = record {
        plans = after.plans;
        rest = after.rest ++ tail;
        each = after.each;
        within = after.within;
        text_is = ap (λ (t : List ℕ). t ++ tail) after.text_is ∙ append_assoc plans after.rest tail;
        wrong = next_longer h.version (h.count - length after.plans) after.rest tail w (λ some. whole_rest file_bytes most_bytes prefix after.rest w (enough some) whole) after.wrong;
      };
    })

-- a first fault that is whole is the first fault whatever follows
first_whole : (prefix tail : List ℕ) (place : ℕ) (cause : Cause) → Whole file_bytes prefix (at_left cause (length prefix - place)) → IsFirstFault prefix place cause → IsFirstFault (prefix ++ tail) place cause
first_whole prefix tail place cause whole first =
    let left : (length prefix - place) + length tail ≡ length (prefix ++ tail) - place = omega (arith, length-append prefix tail, first.within) in
    record {
      within = omega (arith, length-append prefix tail, first.within);
      wrong = subst (IsWrong (prefix ++ tail)) (ap (at_left cause) left) (wrong_longer prefix tail (at_left cause (length prefix - place)) whole first.wrong);
    }

-- the first fault of a long prefix is the first fault of the text
pub first_longer : (prefix tail : List ℕ) (place : ℕ) (cause : Cause) → IsLong prefix → IsFirstFault prefix place cause → IsFirstFault (prefix ++ tail) place cause
first_longer prefix tail place cause long first = first_whole prefix tail place cause (inr (omega (arith, long))) first

-- a first fault that is no want of bytes is the first one whatever follows
pub first_stays : (prefix tail : List ℕ) (place : ℕ) (cause : Cause) → cause ≢ Short → IsFirstFault prefix place cause → IsFirstFault (prefix ++ tail) place cause
first_stays prefix tail place cause not_short first = first_whole prefix tail place cause (inl not_short) first

-- so no bytes make a file of it
pub never_begins : (text : List ℕ) (place : ℕ) (cause : Cause) → IsFirstFault text place cause → cause ≢ Short → BeginsFile text → ⊥
never_begins text place cause first not_short begins = none_first (text ++ begins.more) begins.plans place cause begins.file (first_stays text begins.more place cause not_short first)
