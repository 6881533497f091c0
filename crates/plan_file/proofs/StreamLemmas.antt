-- Plans one after the other: what stands in a text is one list of plans, or has one first fault.
use Rattle.std.proofs.Common.{◌≡◌, ◌≢◌, ℕ, suc, ◌+◌, ◌-◌, ◌<◌, ◌≤◌, List, [], ◌∷◌, ◌++◌, length, get_or, take, All, Ok, Err, inl, inr, refl, sym, ap, subst, ◌∙◌, append_assoc, arith}
use Rattle.std.specs.List.{flat_map}
use Rattle.std.proofs.lemmas.List.{append-nil, flat_map_more, length-append, take_more}
use Rattle.std.proofs.lemmas.List.Concat.{flat_map-append}
use Rattle.std.proofs.lemmas.List.Elements.{All-push}
use Rattle.lit_plan.specs.Plans.{Plan}
use Rattle.plan_file.specs.declared.fault.Cause.TheVariants.{Trailing}
use Rattle.plan_file.specs.declared.fault.Stop.{Stop}
use Rattle.plan_file.specs.declared.fault.Stop.TheVariants as stop
use Rattle.plan_file.specs.declared.version.Version.{Version}
use Rattle.plan_file.specs.Faults.{IfWrong}
use Rattle.plan_file.specs.FirstFaults.{AreEntries, IsWrong, IsWrongAfter, IsWrongEntry, IsWrongNext}
use Rattle.plan_file.specs.Reading.{head_at, plan_at, wrong_at}
use Rattle.plan_file.specs.Spelling.{head_text, plan_text, AnnouncesPlans, IsFile, IsPlan}
use Rattle.plan_file.proofs.EntryParts.{entry_bad}
use Rattle.plan_file.proofs.FieldLemmas.{AreBytes}
use Rattle.plan_file.proofs.Parts.{head_bad}
use Rattle.plan_file.proofs.PlanLemmas.{head_read}

-- ---- reading one after the other

-- i plans that were read, and the bytes after them
pub record SoFar (version : Version) (i : ℕ) (bytes : List ℕ) (plans : List Plan) (rest : List ℕ) : Type 0 where
  pub each : All (IsPlan version) plans
  pub number : length plans ≡ i
  pub text_is : bytes ≡ flat_map plan_text plans ++ rest

pub so_far_more : (version : Version) (i : ℕ) (bytes : List ℕ) (plans more : List Plan) (p : Plan) (rest after : List ℕ) → SoFar version i bytes plans rest → IsPlan version p → rest ≡ plan_text p ++ after → more ≡ plans ++ p ∷ [] → SoFar version (i + 1) bytes more after
so_far_more version i bytes plans more p rest after s is e m =
    let text : bytes ≡ flat_map plan_text (plans ++ p ∷ []) ++ after =
    s.text_is ∙ ap (λ (t : List ℕ). flat_map plan_text plans ++ t) e ∙ sym (append_assoc (flat_map plan_text plans) (plan_text p) after)
    ∙ ap (λ (t : List ℕ). (flat_map plan_text plans ++ t) ++ after) (sym (append-nil (plan_text p)))
    ∙ ap (λ (t : List ℕ). t ++ after) (sym (flat_map-append plan_text plans (p ∷ []))) in
    subst (λ (ps : List Plan). SoFar version (i + 1) bytes ps after) (sym m)
    (record { each = All-push (IsPlan version) plans p s.each is; number = omega (arith, length-append plans (p ∷ []), s.number); text_is = text })

-- a fault of the next entry is a fault after the plans that were read
pub wrong_next : (version : Version) (count i : ℕ) (bytes : List ℕ) (plans : List Plan) (rest : List ℕ) (e : Stop) → i < count → SoFar version i bytes plans rest → IfWrong (IsWrongEntry version rest) e → IfWrong (IsWrongAfter version count bytes) e
wrong_next version count i bytes plans rest stop.OutOfMemory lt s wrong = tt
wrong_next version count i bytes plans rest (stop.Wrong w) lt s wrong =
    let k : suc (count - (i + 1)) ≡ count - length plans = omega (arith, s.number) in
    record {
      plans = plans;
      rest = rest;
      each = s.each;
      within = omega (arith, s.number);
      text_is = s.text_is;
      wrong = subst (λ (n : ℕ). IsWrongNext version n rest w) k wrong;
    }

-- bytes after the last plan are wrong
pub wrong_trailing : (version : Version) (count i : ℕ) (bytes : List ℕ) (plans : List Plan) (rest : List ℕ) → count ≤ i → i ≤ count → SoFar version i bytes plans rest → rest ≢ [] → IsWrongAfter version count bytes (wrong_at Trailing rest)
wrong_trailing version count i bytes plans rest done le s some =
    let k : 0 ≡ count - length plans = omega (arith, s.number) in
    record {
      plans = plans;
      rest = rest;
      each = s.each;
      within = omega (arith, s.number);
      text_is = s.text_is;
      wrong = subst (λ (n : ℕ). IsWrongNext version n rest (wrong_at Trailing rest)) k (some, refl);
    }

-- a head and as many plans as it says are the text
pub whole : (version : Version) (count : ℕ) (text rest : List ℕ) (plans : List Plan) → AreBytes text → head_at text ≡ Ok ((version, count), rest) → AreEntries version count rest plans → IsFile text plans
whole version count text rest plans bytes head are =
    let h = head_read text ((version, count), rest) bytes head in
    record {
      version = version;
      file = record {
        are = record { few = omega (arith, h.1, are.count_is); each = are.each };
        spelled = h.0 ∙ ap (λ (t : List ℕ). head_text version count ++ t) are.text_is ∙ ap (λ (k : ℕ). head_text version k ++ flat_map plan_text plans) (sym are.count_is);
      };
    }

-- a head that says some number of plans announces them
pub announced : (version : Version) (count : ℕ) (text rest : List ℕ) → AreBytes text → head_at text ≡ Ok ((version, count), rest) → 0 < count → AnnouncesPlans text
announced version count text rest bytes head some =
    let h = head_read text ((version, count), rest) bytes head in
    record { version = version; count = count; some = some; few = h.1; rest = rest; text_is = h.0 }

-- and so does a file that has plans
pub file_announces : (text : List ℕ) (plans : List Plan) → IsFile text plans → 0 < length plans → AnnouncesPlans text
file_announces text plans f some =
    record { version = f.version; count = length plans; some = some; few = f.file.are.few; rest = flat_map plan_text plans; text_is = f.file.spelled }

-- a fault after the head is a fault of the text
pub wrong_after : (version : Version) (count : ℕ) (text rest : List ℕ) (e : Stop) → AreBytes text → head_at text ≡ Ok ((version, count), rest) → IfWrong (IsWrongAfter version count rest) e → IfWrong (IsWrong text) e
wrong_after version count text rest stop.OutOfMemory bytes head wrong = tt
wrong_after version count text rest (stop.Wrong w) bytes head wrong =
    let h = head_read text ((version, count), rest) bytes head in
    inr (record { version = version; count = count; few = h.1; rest = rest; text_is = h.0; wrong = wrong })

-- a fault of the head is a fault of the text
pub wrong_head : (text : List ℕ) (e : Stop) → AreBytes text → IfWrong (λ w. head_at text ≡ Err w) e → IfWrong (IsWrong text) e
wrong_head text stop.OutOfMemory bytes wrong = tt
wrong_head text (stop.Wrong w) bytes wrong = inl (head_bad text w bytes wrong)

-- a fault of a field of an entry is a fault of the entry
pub wrong_entry : (version : Version) (bytes : List ℕ) (e : Stop) → AreBytes bytes → IfWrong (λ w. plan_at version bytes ≡ Err w) e → IfWrong (IsWrongEntry version bytes) e
wrong_entry version bytes stop.OutOfMemory are wrong = tt
wrong_entry version bytes (stop.Wrong w) are wrong = entry_bad version bytes w are wrong

-- one more element is written after those before it
pub texts_more : {A : Type 0} (text : A → List ℕ) (prefix old new : List ℕ) (all : List A) (i : ℕ) (none x : A) → i < length all → x ≡ get_or all i none
    → old ≡ prefix ++ flat_map text (take i all) → new ≡ old ++ text x → new ≡ prefix ++ flat_map text (take (i + 1) all)
texts_more {A} text prefix old new all i none x within is so_far one =
    let last : take (i + 1) all ≡ take i all ++ x ∷ [] = take_more all i none within ∙ ap (λ (y : A). take i all ++ y ∷ []) (sym is) in
    one ∙ ap (λ (t : List ℕ). t ++ text x) so_far ∙ flat_map_more text prefix (take i all) x ∙ ap (λ (ys : List A). prefix ++ flat_map text ys) (sym last)
