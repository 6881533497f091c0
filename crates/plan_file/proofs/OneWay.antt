-- A text is one list of plans, or it has one first fault, and never both.
use Rattle.std.proofs.Common.{◌≡◌, ℕ, zero, suc, ◌-◌, ◌<◌, ◌≤◌, List, [], ◌∷◌, ◌++◌, length, All, Ok, inl, inr, refl, sym, ap, subst, ◌∙◌, append_assoc, arith}
use Rattle.std.specs.List.{flat_map, AllByRecursion}
use Rattle.std.proofs.lemmas.List.Elements.{All-from_recursion, All-weaker, recursion_from_All}
use Rattle.lit_base.specs.declared.profile.Profile.TheVariants.{Eight}
use Rattle.lit_plan.specs.Plans.{Plan}
use Rattle.plan_file.specs.declared.fault.Cause.{Cause}
use Rattle.plan_file.specs.declared.fault.Wrong.{Wrong}
use Rattle.plan_file.specs.declared.version.Version.{Version}
use Rattle.plan_file.specs.declared.version.Version.TheVariants.{One, Two}
use Rattle.plan_file.specs.FirstBad.{FitsHead, IsFirstBad, head_fields, text_of}
use Rattle.plan_file.specs.FirstFaults.{IsFirstFault, IsWrong, IsWrongAfter, IsWrongNext}
use Rattle.plan_file.specs.Reading.{head_at, plan_at}
use Rattle.plan_file.specs.Spelling.{head_text, plan_text, ArePlans, IsFile, IsFileOf, IsPlan}
use Rattle.plan_file.proofs.EntryParts.{one_entry, one_value, right_entry}
use Rattle.plan_file.proofs.PartLemmas.{none_bad, one_bad}
use Rattle.plan_file.proofs.Parts.{head_steady}
use Rattle.plan_file.proofs.PlanLemmas.{head_again, plan_again}
use Rattle.plan_file.proofs.PlaceLemmas.{wrong_within}

cons_same : {A : Type 0} {x y : A} {xs ys : List A} → x ≡ y → xs ≡ ys → x ∷ xs ≡ y ∷ ys
cons_same p q = (cc)

-- ---- one entry

-- a right plan at the start is read
read_at : (version : Version) (p : Plan) (bytes rest : List ℕ) → IsPlan version p → bytes ≡ plan_text p ++ rest → plan_at version bytes ≡ Ok (p, rest)
read_at version p bytes rest is e = ap (plan_at version) e ∙ plan_again version p rest is.fields

-- one thing is wrong with what follows
one_next : (version : Version) (missing : ℕ) (rest : List ℕ) (w v : Wrong) → IsWrongNext version missing rest w → IsWrongNext version missing rest v → w ≡ v
one_next version zero rest w v h k = h.1 ∙ sym k.1
one_next version (suc missing) rest w v h k = one_entry version rest w v h k

-- ---- entries one after the other

-- where plans are missing, and one stands there, nothing is wrong
right_next : (version : Version) (missing : ℕ) (p : Plan) (bytes rest : List ℕ) (w : Wrong) → 0 < missing → IsPlan version p → bytes ≡ plan_text p ++ rest → IsWrongNext version missing bytes w → ⊥
right_next version zero p bytes rest w some is e wrong = absurd (omega arith)
right_next version (suc missing) p bytes rest w some is e wrong = right_entry version p bytes rest w is e wrong

-- two plans at the start are one, and the same bytes follow them
record SameFirst (p q : Plan) (s t : List ℕ) : Type 0 where
  plan : p ≡ q
  rest : s ≡ t

same_first : (version : Version) (p q : Plan) (s t : List ℕ) → IsPlan version p → IsPlan version q → plan_text p ++ s ≡ plan_text q ++ t → SameFirst p q s t
same_first version p q s t ip iq e =
    let both : (p, s) ≡ (q, t) = one_value (read_at version p (plan_text p ++ s) s ip refl) (read_at version q (plan_text p ++ s) t iq e) in
    record { plan = ap (λ (x : Plan × List ℕ). x.0) both; rest = ap (λ (x : Plan × List ℕ). x.1) both }

-- the text of a plan and others, and what follows
regroup : (p : Plan) (ps : List Plan) (rest : List ℕ) → flat_map plan_text (p ∷ ps) ++ rest ≡ plan_text p ++ (flat_map plan_text ps ++ rest)
regroup p ps rest = append_assoc (plan_text p) (flat_map plan_text ps) rest

-- one thing is wrong after plans that are right
one_after : (version : Version) (count : ℕ) (ps qs : List Plan) (r s : List ℕ) (w v : Wrong) → AllByRecursion (IsPlan version) ps → AllByRecursion (IsPlan version) qs → length ps ≤ count → length qs ≤ count
    → flat_map plan_text ps ++ r ≡ flat_map plan_text qs ++ s → IsWrongNext version (count - length ps) r w → IsWrongNext version (count - length qs) s v → w ≡ v
one_after version count [] [] r s w v ip iq lp lq e h k = one_next version (count - 0) s w v (subst (λ (t : List ℕ). IsWrongNext version (count - 0) t w) e h) k
one_after version count [] (q ∷ qs) r s w v ip iq lp lq e h k = absurd (right_next version (count - 0) q r (flat_map plan_text qs ++ s) w (omega (arith, lq)) iq.0 (e ∙ regroup q qs s) h)
one_after version count (p ∷ ps) [] r s w v ip iq lp lq e h k = absurd (right_next version (count - 0) p s (flat_map plan_text ps ++ r) v (omega (arith, lp)) ip.0 (sym e ∙ regroup p ps r) k)
one_after version count (p ∷ ps) (q ∷ qs) r s w v ip iq lp lq e h k =
    let first = same_first version p q (flat_map plan_text ps ++ r) (flat_map plan_text qs ++ s) ip.0 iq.0 (sym (regroup p ps r) ∙ e ∙ regroup q qs s) in
    let np : count - length (p ∷ ps) ≡ (count - 1) - length ps = omega arith in
    let nq : count - length (q ∷ qs) ≡ (count - 1) - length qs = omega arith in
    one_after version (count - 1) ps qs r s w v ip.1 iq.1 (omega (arith, lp)) (omega (arith, lq)) first.rest
    (subst (λ (n : ℕ). IsWrongNext version n r w) np h) (subst (λ (n : ℕ). IsWrongNext version n s v) nq k)

-- where all plans stand, nothing is wrong
right_after : (version : Version) (ps qs : List Plan) (s : List ℕ) (w : Wrong) → AllByRecursion (IsPlan version) ps → AllByRecursion (IsPlan version) qs → length qs ≤ length ps
    → flat_map plan_text ps ≡ flat_map plan_text qs ++ s → IsWrongNext version (length ps - length qs) s w → ⊥
right_after version [] [] s w ip iq le e h = h.0 (sym e)
right_after version [] (q ∷ qs) s w ip iq le e h = absurd (omega (arith, le))
right_after version (p ∷ ps) [] s w ip iq le e h = right_next version (length (p ∷ ps) - 0) p s (flat_map plan_text ps) w (omega arith) ip.0 (sym e) h
right_after version (p ∷ ps) (q ∷ qs) s w ip iq le e h =
    let first = same_first version p q (flat_map plan_text ps) (flat_map plan_text qs ++ s) ip.0 iq.0 (e ∙ regroup q qs s) in
    let n : length (p ∷ ps) - length (q ∷ qs) ≡ length ps - length qs = omega arith in
    right_after version ps qs s w ip.1 iq.1 (omega (arith, le)) first.rest (subst (λ (k : ℕ). IsWrongNext version k s w) n h)

-- as many plans with the same text are the same
same_plans : (version : Version) (ps qs : List Plan) → AllByRecursion (IsPlan version) ps → AllByRecursion (IsPlan version) qs → length ps ≡ length qs → flat_map plan_text ps ≡ flat_map plan_text qs → ps ≡ qs
same_plans version [] [] ip iq len e = refl
same_plans version [] (q ∷ qs) ip iq len e = absurd (omega (arith, len))
same_plans version (p ∷ ps) [] ip iq len e = absurd (omega (arith, len))
same_plans version (p ∷ ps) (q ∷ qs) ip iq len e =
    let first = same_first version p q (flat_map plan_text ps) (flat_map plan_text qs) ip.0 iq.0 e in
    cons_same first.plan (same_plans version ps qs ip.1 iq.1 (omega (arith, len)) first.rest)

-- ---- whole texts

pub by_recursion : (version : Version) (ps : List Plan) → All (IsPlan version) ps → AllByRecursion (IsPlan version) ps
by_recursion version ps all = recursion_from_All (IsPlan version) ps all

-- the head of a file has the version and the number of plans
head_of : (version : Version) (text : List ℕ) (ps : List Plan) → IsFileOf version text ps → head_at text ≡ Ok ((version, length ps), flat_map plan_text ps)
head_of version text ps is = ap head_at is.spelled ∙ head_again version (length ps) (flat_map plan_text ps) is.are.few

-- the version and the number in a head, and the bytes after it
abbrev Head : Type 0
Head = (Version × ℕ) × List ℕ

-- a text is one list of plans
pub one_list : (text : List ℕ) (ps qs : List Plan) → IsFile text ps → IsFile text qs → ps ≡ qs
one_list text ps qs f g =
    let one : Head = ((f.version, length ps), flat_map plan_text ps) in
    let other : Head = ((g.version, length qs), flat_map plan_text qs) in
    let both : one ≡ other = one_value (head_of f.version text ps f.file) (head_of g.version text qs g.file) in
    let versions : g.version ≡ f.version = sym (ap (λ (x : Head). x.0.0) both) in
    let each : All (IsPlan f.version) qs = subst (λ (version : Version). All (IsPlan version) qs) versions g.file.are.each in
    same_plans f.version ps qs (by_recursion f.version ps f.file.are.each) (by_recursion f.version qs each) (ap (λ (x : Head). x.0.1) both) (ap (λ (x : Head). x.1) both)

-- the fields of a head are its spelling
pub head_fields_text : (h : Version × ℕ) (rest : List ℕ) → head_text h.0 h.1 ++ rest ≡ text_of (head_fields h) ++ rest
unfolding head_text
head_fields_text h rest = refl

-- a head that stands has no bad field
right_head : (text rest : List ℕ) (version : Version) (count : ℕ) (w : Wrong) → count ≤ 64 → text ≡ head_text version count ++ rest → IsFirstBad FitsHead head_fields text w → ⊥
right_head text rest version count w few e bad = none_bad FitsHead head_fields head_steady text rest w (version, count) few (e ∙ head_fields_text (version, count) rest) bad

-- two heads at the start of one text are one
one_head : (version other : Version) (count number : ℕ) (s t : List ℕ) → count ≤ 64 → number ≤ 64 → head_text version count ++ s ≡ head_text other number ++ t → ◌≡◌ {A = Head} ((version, count), s) ((other, number), t)
one_head version other count number s t few also e = one_value (head_again version count s few) (ap head_at e ∙ head_again other number t also)

-- a fault after a head
abbrev WrongAfter : Wrong → Head → Type 0
WrongAfter w head = IsWrongAfter head.0.0 head.0.1 head.1 w

-- then nothing is wrong with it
pub none_wrong : (text : List ℕ) (ps : List Plan) (w : Wrong) → IsFile text ps → IsWrong text w → ⊥
none_wrong text ps w f (inl bad) = right_head text (flat_map plan_text ps) f.version (length ps) w f.file.are.few f.file.spelled bad
none_wrong text ps w f (inr h) =
    let here : Head = ((f.version, length ps), flat_map plan_text ps) in
    let there : Head = ((h.version, h.count), h.rest) in
    let both : there ≡ here = one_head h.version f.version h.count (length ps) h.rest (flat_map plan_text ps) h.few f.file.are.few (sym h.text_is ∙ f.file.spelled) in
    let after : WrongAfter w here = subst (WrongAfter w) both h.wrong in
    right_after f.version ps after.plans after.rest w (by_recursion f.version ps f.file.are.each) (by_recursion f.version after.plans after.each) after.within after.text_is after.wrong

-- one thing is wrong with a text
pub one_wrong : (text : List ℕ) (w v : Wrong) → IsWrong text w → IsWrong text v → w ≡ v
one_wrong text w v (inl a) (inl b) = one_bad FitsHead head_fields head_steady text w v a b
one_wrong text w v (inl a) (inr k) = absurd (right_head text k.rest k.version k.count w k.few k.text_is a)
one_wrong text w v (inr h) (inl b) = absurd (right_head text h.rest h.version h.count v h.few h.text_is b)
one_wrong text w v (inr h) (inr k) =
    let one : Head = ((h.version, h.count), h.rest) in
    let other : Head = ((k.version, k.count), k.rest) in
    let both : other ≡ one = one_head k.version h.version k.count h.count k.rest h.rest k.few h.few (sym k.text_is ∙ h.text_is) in
    let first : WrongAfter w one = h.wrong in
    let second : WrongAfter v one = subst (WrongAfter v) both k.wrong in
    one_after h.version h.count first.plans second.plans first.rest second.rest w v (by_recursion h.version first.plans first.each) (by_recursion h.version second.plans second.each) first.within second.within
    (sym first.text_is ∙ second.text_is) first.wrong second.wrong

-- ---- the plans that a version can spell

-- a list of plans has one text in a version, if any
pub one_text : (version : Version) (plans : List Plan) (text other : List ℕ) → IsFileOf version text plans → IsFileOf version other plans → text ≡ other
one_text version plans text other f g = f.spelled ∙ sym g.spelled

-- a plan that version 1 can spell version 2 can spell too
newer_plan : (p : Plan) → IsPlan One p → IsPlan Two p
newer_plan p is =
    let has = is.fields in
    record {
      fields = record {
        normal = has.normal;
        some = has.some;
        few = omega (arith, has.few);
        profile = tt;
        some_ends = has.some_ends;
        few_ends = has.few_ends;
        small_ends = has.small_ends;
        small_cost = has.small_cost;
        potentials = has.potentials;
        small_potentials = has.small_potentials;
      };
      certified = is.certified;
    }

pub newer : (plans : List Plan) → ArePlans One plans → ArePlans Two plans
newer plans are = record { few = are.few; each = All-weaker (IsPlan One) (IsPlan Two) newer_plan plans are.each }

-- what version 1 has room for
abbrev IsOlder : Plan → Type 0
IsOlder p = (p.certificate.profile ≡ Eight) × (length p.literals.texts ≤ 1024)

older_plan : (p : Plan) → IsPlan Two p → IsOlder p → IsPlan One p
older_plan p is old =
    let has = is.fields in
    record {
      fields = record {
        normal = has.normal;
        some = has.some;
        few = old.1;
        profile = old.0;
        some_ends = has.some_ends;
        few_ends = has.few_ends;
        small_ends = has.small_ends;
        small_cost = has.small_cost;
        potentials = has.potentials;
        small_potentials = has.small_potentials;
      };
      certified = is.certified;
    }

older_each : (ps : List Plan) → AllByRecursion (IsPlan Two) ps → AllByRecursion IsOlder ps → AllByRecursion (IsPlan One) ps
older_each [] each old = tt
older_each (p ∷ ps) each old = (older_plan p each.0 old.0, older_each ps each.1 old.1)

pub older : (plans : List Plan) → ArePlans Two plans → All IsOlder plans → ArePlans One plans
older plans are old = record {
  few = are.few;
  each = All-from_recursion (IsPlan One) plans (older_each plans (by_recursion Two plans are.each) (recursion_from_All IsOlder plans old));
}

-- ---- faults at their places

abbrev at_left : Cause → ℕ → Wrong
at_left cause left = record { left = left; cause = cause }

-- something wrong is the first fault, at the place given by the bytes that stand from it on
pub first_fault : (text : List ℕ) (w : Wrong) → IsWrong text w → IsFirstFault text (length text - w.left) w.cause
first_fault text w wrong =
    let within = wrong_within text w wrong in
    let left : w.left ≡ length text - (length text - w.left) = omega (arith, within) in
    record { within = omega arith; wrong = subst (IsWrong text) (ap (at_left w.cause) left) wrong }

-- a call that gives a place and a cause gives the first fault's
pub same_cause : {X : Type 0} (f : ℕ → Cause → X) (text : List ℕ) (w : Wrong) (place : ℕ) (cause : Cause) → IsWrong text w → IsFirstFault text place cause → f (length text - w.left) w.cause ≡ f place cause
same_cause f text w place cause wrong first =
    let same : w ≡ at_left cause (length text - place) = one_wrong text w (at_left cause (length text - place)) wrong first.wrong in
    let places : length text - w.left ≡ place = omega (arith, ap (λ (x : Wrong). x.left) same, first.within) in
    let causes : w.cause ≡ cause = ap (λ (x : Wrong). x.cause) same in
    ap (λ (k : ℕ). f k w.cause) places ∙ ap (f place) causes

-- a text has one first fault
pub one_fault : {X : Type 0} (f : ℕ → Cause → X) (text : List ℕ) (place other : ℕ) (cause cause' : Cause) → IsFirstFault text place cause → IsFirstFault text other cause' → f place cause ≡ f other cause'
one_fault f text place other cause cause' first second =
    let back : place ≡ length text - (length text - place) = omega (arith, first.within) in
    ap (λ (k : ℕ). f k cause) back ∙ same_cause f text (at_left cause (length text - place)) other cause' first.wrong second

-- a place and a cause
abbrev Fault : Type 0
Fault = ℕ × Cause

-- its place and its cause are one
pub same_fault : (text : List ℕ) (place other : ℕ) (cause another : Cause) → IsFirstFault text place cause → IsFirstFault text other another → (place ≡ other) × (cause ≡ another)
same_fault text place other cause another first second =
    let both = one_fault {X = Fault} (λ p c. (p, c)) text place other cause another first second in
    (ap (λ (x : Fault). x.0) both, ap (λ (x : Fault). x.1) both)

-- a file has none
pub none_first : (text : List ℕ) (plans : List Plan) (place : ℕ) (cause : Cause) → IsFile text plans → IsFirstFault text place cause → ⊥
none_first text plans place cause f first = none_wrong text plans (at_left cause (length text - place)) f first.wrong
