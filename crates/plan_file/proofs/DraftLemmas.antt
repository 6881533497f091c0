-- The bytes before the first fault begin a file of drafts.
use Rattle.std.proofs.Common.{◌≡◌, ℕ, zero, suc, ◌-◌, ◌*◌, ◌^◌, ◌<◌, ◌≤◌, List, [], ◌∷◌, ◌++◌, length, take, drop, inl, inr, refl, sym, ap, subst, ◌∙◌, append_assoc, arith}
use Rattle.std.specs.List.{flat_map, AllByRecursion}
use Rattle.std.specs.Int.{w16, to_be_bytes}
use Rattle.std.proofs.lemmas.List.{append-nil, length-append, take_at, take-append-drop}
use Rattle.std.proofs.lemmas.List.Concat.{flat_map-append}
use Rattle.std.proofs.lemmas.List.Elements.{All-from_recursion, recursion_from_All}
use Rattle.lit_base.specs.Flags.{flags_of}
use Rattle.lit_base.specs.declared.fold.Fold.{Fold}
use Rattle.lit_base.specs.declared.fold.Fold.TheVariants.{No}
use Rattle.lit_base.specs.declared.limits.TheConstants.{MAX_LITERAL_LEN}
use Rattle.lit_base.specs.declared.profile.Profile.{Profile}
use Rattle.lit_base.specs.declared.profile.Profile.TheVariants.{Eight}
use Rattle.lit_base.specs.Literals.{Literals, IsNormal}
use Rattle.lit_base.specs.Profiles.{buckets}
use Rattle.lit_cert.specs.Certificates.{CertificateParts}
use Rattle.lit_plan.specs.Plans.{Plan}
use Rattle.plan_file.specs.declared.fault.Cause.{Cause}
use Rattle.plan_file.specs.declared.fault.Wrong.{Wrong}
use Rattle.plan_file.specs.declared.version.Version.{Version}
use Rattle.plan_file.specs.FirstBad.{Field, FitsCertificate, FitsHead, FitsList, FitsLiteral, FitsStart, IsFirstBad, Start, certificate_fields, head_fields, literal_fields, start_fields, text_of}
use Rattle.plan_file.specs.FirstFaults.{IsFirstFault, IsWrong, IsWrongEntry, IsWrongInCertificate, IsWrongInLiterals, IsWrongLiteral, IsWrongNext}
use Rattle.plan_file.specs.Reading.{folded_len}
use Rattle.plan_file.specs.Spelling.{BeginsDraft, CanExpress, IsDraft, IsPlan, certificate_text, head_text, limit_of, literal_text, literals_text, plan_text, spelling}
use Rattle.plan_file.proofs.EntryParts.{certificate_fields_text, fits_certificate, fits_list}
use Rattle.plan_file.proofs.OneWay.{head_fields_text}
use Rattle.plan_file.proofs.PartLemmas.{text_of-append}
use Rattle.plan_file.proofs.Parts.{all_zeros, eight_can, length-zeros, some_buckets, some_limit, zeros}

-- bytes up to a fault, with which something begins that P holds of
pub record Begun (P : List ℕ → Type 0) (bytes : List ℕ) (w : Wrong) : Type 0 where
  pub prefix : List ℕ
  pub rest : List ℕ
  pub bytes_are : bytes ≡ prefix ++ rest
  pub left_is : length rest ≡ w.left
  pub more : List ℕ
  pub whole : P (prefix ++ more)

-- ---- parts

-- the text is the text of a part
abbrev IsPart : {Part : Type 0} → (Part → Type 0) → (Part → List Field) → List ℕ → Type 0
IsPart {Part} fits fields_of text = (part : Part) × fits part × (text ≡ text_of (fields_of part))

-- a part begins before its first bad field
part_begun : {Part : Type 0} (fits : Part → Type 0) (fields_of : Part → List Field) (bytes : List ℕ) (w : Wrong) → IsFirstBad fits fields_of bytes w → Begun (IsPart fits fields_of) bytes w
part_begun fits fields_of bytes w bad = record {
  prefix = text_of bad.before;
  rest = bad.rest;
  bytes_are = bad.bytes_are;
  left_is = ap (λ (v : Wrong). v.left) (sym bad.wrong_is);
  more = text_of (bad.field ∷ bad.after);
  whole = (bad.part, bad.fitting, sym (ap text_of bad.fields_are ∙ text_of-append bad.before (bad.field ∷ bad.after)));
}

-- ---- literals

-- a literal of a draft
abbrev IsText : List ℕ → Type 0
IsText t = (1 ≤ length t) × (length t ≤ MAX_LITERAL_LEN)

-- the text is a literal of a draft
abbrev IsLiteral : List ℕ → Type 0
IsLiteral text = (t : List ℕ) × IsText t × (text ≡ literal_text t)

-- nothing is the prefix of a literal
none_begun : (bytes : List ℕ) (w : Wrong) → w.left ≡ length bytes → Begun IsLiteral bytes w
none_begun bytes w left = record { prefix = []; rest = bytes; bytes_are = refl; left_is = sym left; more = literal_text (0 ∷ []); whole = (0 ∷ [], (omega arith, omega arith), refl) }

literal_begun : (fold : Fold) (room : ℕ) (before bytes : List ℕ) (w : Wrong) → IsWrongLiteral fold room before bytes w → Begun IsLiteral bytes w
literal_begun fold room before bytes w (inl bad) =
    let b = part_begun (FitsLiteral room) literal_fields bytes w bad in
    let text = b.whole.0 in
    record { prefix = b.prefix; rest = b.rest; bytes_are = b.bytes_are; left_is = b.left_is; more = b.more; whole = (text, (b.whole.1.some, b.whole.1.short), b.whole.2 ∙ ap (λ (t : List ℕ). to_be_bytes w16 (length text) ++ t) (append-nil text)) }
literal_begun fold room before bytes w (inr (inl full)) = none_begun bytes w (ap (λ (v : Wrong). v.left) full.1)
literal_begun fold room before bytes w (inr (inr (inl u))) =
    let k = folded_len fold u.text in
    let len = to_be_bytes w16 (length u.text) in
    let split : u.text ≡ take k u.text ++ drop k u.text = sym (take-append-drop k u.text) in
    record {
      prefix = len ++ take k u.text;
      rest = drop k u.text ++ u.rest;
      bytes_are = u.bytes_are ∙ append_assoc len u.text u.rest ∙ ap (λ (t : List ℕ). len ++ (t ++ u.rest)) split ∙ ap (λ (t : List ℕ). len ++ t) (append_assoc (take k u.text) (drop k u.text) u.rest) ∙ sym (append_assoc len (take k u.text) (drop k u.text ++ u.rest));
      left_is = ap (λ (v : Wrong). v.left) (sym u.wrong_is);
      more = drop k u.text;
      whole = (u.text, (u.fits.some, u.fits.short), append_assoc len (take k u.text) (drop k u.text) ∙ ap (λ (t : List ℕ). len ++ t) (sym split));
    }
literal_begun fold room before bytes w (inr (inr (inr o))) = none_begun bytes w (ap (λ (v : Wrong). v.left) o.wrong_is)

-- as many literals of one byte
unfoldable some_texts : ℕ → List (List ℕ)
some_texts zero = []
some_texts (suc n) = (0 ∷ []) ∷ some_texts n

length-some_texts : (n : ℕ) → length (some_texts n) ≡ n
unfolding some_texts
length-some_texts zero = refl
length-some_texts (suc n) = omega (arith, length-some_texts n)

all_some_texts : (n : ℕ) → AllByRecursion IsText (some_texts n)
unfolding some_texts
all_some_texts zero = tt
all_some_texts (suc n) = ((omega arith, omega arith), all_some_texts n)

all_texts_append : (xs ys : List (List ℕ)) → AllByRecursion IsText xs → AllByRecursion IsText ys → AllByRecursion IsText (xs ++ ys)
all_texts_append [] ys xs_are ys_are = ys_are
all_texts_append (x ∷ xs) ys xs_are ys_are = (xs_are.0, all_texts_append xs ys xs_are.1 ys_are)

both_texts : (ts : List (List ℕ)) → AllByRecursion (λ t. 0 < length t) ts → AllByRecursion (λ t. length t ≤ MAX_LITERAL_LEN) ts → AllByRecursion IsText ts
both_texts [] some short = tt
both_texts (t ∷ ts) some short = ((some.0, short.0), both_texts ts some.1 short.1)

texts_of_normal : (l : Literals) → IsNormal l → AllByRecursion IsText l.texts
texts_of_normal l normal = both_texts l.texts (recursion_from_All (λ t. 0 < length t) l.texts normal.nonempty) (recursion_from_All (λ t. length t ≤ MAX_LITERAL_LEN) l.texts normal.short)

-- ---- entries

-- the text is an entry of a draft
abbrev IsEntry : Version → List ℕ → Type 0
IsEntry version text = (p : Plan) × IsDraft version p × (text ≡ plan_text p)

-- a draft of any literals
draft_of : Fold → Profile → List (List ℕ) → Plan
draft_of fold profile texts = record { literals = record { folding = fold; texts = texts }; certificate = record { profile = profile; ends = 0 ∷ []; cost = 0; potentials = zeros (buckets profile * length texts) } }

draft_is : (version : Version) (fold : Fold) (profile : Profile) (texts : List (List ℕ)) → CanExpress version profile → 1 ≤ length texts → length texts ≤ limit_of version → AllByRecursion IsText texts → IsDraft version (draft_of fold profile texts)
unfolding draft_of
draft_is version fold profile texts can some few all = record {
  texts = All-from_recursion IsText texts all;
  some = some;
  few = few;
  profile = can;
  some_ends = omega arith;
  few_ends = some_buckets profile;
  small_ends = All-from_recursion (λ e. e < 2 ^ 16) (0 ∷ []) (omega arith, tt);
  small_cost = omega arith;
  potentials = length-zeros (buckets profile * length texts);
  small_potentials = All-from_recursion (λ h. h < 2 ^ 64) (zeros (buckets profile * length texts)) (all_zeros (2 ^ 64) (buckets profile * length texts) (omega arith));
}

-- an entry is its start, its literals and its certificate
entry_from : (s : Start) (texts : List (List ℕ)) → length texts ≡ s.count → plan_text (draft_of s.fold s.profile texts) ≡ text_of (start_fields s) ++ (flat_map literal_text texts ++ certificate_text (draft_of s.fold s.profile texts).certificate)
unfolding plan_text draft_of
entry_from s texts len =
    let certificate = certificate_text (draft_of s.fold s.profile texts).certificate in
    let flags = flags_of s.fold s.profile in
    ap (λ (t : List ℕ). flags ∷ t) (append_assoc (to_be_bytes w16 (length texts)) (flat_map literal_text texts) certificate) ∙ ap (λ (n : ℕ). flags ∷ (to_be_bytes w16 n ++ (flat_map literal_text texts ++ certificate))) len

-- a bad field of the start
start_begun : (version : Version) (bytes : List ℕ) (w : Wrong) → IsFirstBad (FitsStart version) start_fields bytes w → Begun (IsEntry version) bytes w
start_begun version bytes w bad =
    let b = part_begun (FitsStart version) start_fields bytes w bad in
    let s = b.whole.0 in
    let texts = some_texts s.count in
    let len : length texts ≡ s.count = length-some_texts s.count in
    let p = draft_of s.fold s.profile texts in
    let later = flat_map literal_text texts ++ certificate_text p.certificate in
    let fits = b.whole.1 in
    record {
      prefix = b.prefix;
      rest = b.rest;
      bytes_are = b.bytes_are;
      left_is = b.left_is;
      more = b.more ++ later;
      whole = (p, draft_is version s.fold s.profile texts fits.profile (omega (arith, len, fits.some)) (omega (arith, len, fits.few)) (all_some_texts s.count), sym (append_assoc b.prefix b.more later) ∙ ap (λ (t : List ℕ). t ++ later) b.whole.2 ∙ sym (entry_from s texts len));
    }

-- a wrong literal
in_literals_begun : (version : Version) (bytes : List ℕ) (w : Wrong) → IsWrongInLiterals version bytes w → Begun (IsEntry version) bytes w
in_literals_begun version bytes w i =
    let b = literal_begun i.start.fold _ _ i.rest w i.wrong in
    let s = i.start in
    let start = text_of (start_fields s) in
    let before = flat_map literal_text i.texts in
    let text = b.whole.0 in
    let k = s.count - length i.texts - 1 in
    let texts = i.texts ++ text ∷ some_texts k in
    let len : length texts ≡ s.count = omega (arith, length-append i.texts (text ∷ some_texts k), length-some_texts k, i.missing) in
    let p = draft_of s.fold s.profile texts in
    let certificate = certificate_text p.certificate in
    let later = flat_map literal_text (some_texts k) ++ certificate in
    let all = all_texts_append i.texts (text ∷ some_texts k) (texts_of_normal (record { folding = s.fold; texts = i.texts }) i.right) (b.whole.1, all_some_texts k) in
    let literals : flat_map literal_text texts ++ certificate ≡ before ++ (literal_text text ++ later) =
    ap (λ (t : List ℕ). t ++ certificate) (flat_map-append literal_text i.texts (text ∷ some_texts k)) ∙ append_assoc before (flat_map literal_text (text ∷ some_texts k)) certificate
    ∙ ap (λ (t : List ℕ). before ++ t) (append_assoc (literal_text text) (flat_map literal_text (some_texts k)) certificate) in
    let here : (start ++ (before ++ b.prefix)) ++ (b.more ++ later) ≡ start ++ (before ++ (literal_text text ++ later)) =
    append_assoc start (before ++ b.prefix) (b.more ++ later) ∙ ap (λ (t : List ℕ). start ++ t) (append_assoc before b.prefix (b.more ++ later) ∙ ap (λ (t : List ℕ). before ++ t) (sym (append_assoc b.prefix b.more later) ∙ ap (λ (t : List ℕ). t ++ later) b.whole.2)) in
    record {
      prefix = start ++ (before ++ b.prefix);
      rest = b.rest;
      bytes_are = i.bytes_are ∙ ap (λ (t : List ℕ). start ++ (before ++ t)) b.bytes_are ∙ ap (λ (t : List ℕ). start ++ t) (sym (append_assoc before b.prefix b.rest)) ∙ sym (append_assoc start (before ++ b.prefix) b.rest);
      left_is = b.left_is;
      more = b.more ++ later;
      whole = (p, draft_is version s.fold s.profile texts i.fits.profile (omega (arith, len, i.fits.some)) (omega (arith, len, i.fits.few)) all, here ∙ ap (λ (t : List ℕ). start ++ t) (sym literals) ∙ sym (entry_from s texts len));
    }

-- a plan of literals and a certificate that fit is a draft
fitting_draft : (version : Version) (profile : Profile) (l : Literals) (c : CertificateParts) → FitsList version profile l → FitsCertificate profile (length l.texts) c → IsDraft version (record { literals = l; certificate = c })
fitting_draft version profile l c fl fc = record {
  texts = All-from_recursion IsText l.texts (texts_of_normal l fl.normal);
  some = fl.some;
  few = fl.few;
  profile = subst (CanExpress version) (sym fc.profile_is) fl.can;
  some_ends = fc.some_ends;
  few_ends = subst (λ (q : Profile). length c.ends ≤ buckets q) (sym fc.profile_is) fc.few_ends;
  small_ends = fc.small_ends;
  small_cost = fc.small_cost;
  potentials = subst (λ (q : Profile). length c.potentials ≡ buckets q * length l.texts) (sym fc.profile_is) fc.potentials;
  small_potentials = fc.small_potentials;
}

-- a bad field of the certificate
in_certificate_begun : (version : Version) (bytes : List ℕ) (w : Wrong) → IsWrongInCertificate version bytes w → Begun (IsEntry version) bytes w
unfolding plan_text
in_certificate_begun version bytes w i =
    let b = part_begun (FitsCertificate i.profile (length i.literals.texts)) certificate_fields i.rest w i.wrong in
    let c = b.whole.0 in
    let literals = literals_text i.profile i.literals in
    let p : Plan = record { literals = i.literals; certificate = c } in
    record {
      prefix = literals ++ b.prefix;
      rest = b.rest;
      bytes_are = i.bytes_are ∙ ap (λ (t : List ℕ). literals ++ t) b.bytes_are ∙ sym (append_assoc literals b.prefix b.rest);
      left_is = b.left_is;
      more = b.more;
      whole = (p, fitting_draft version i.profile i.literals c i.fits b.whole.1, append_assoc literals b.prefix b.more ∙ ap (λ (t : List ℕ). literals ++ t) (b.whole.2 ∙ certificate_fields_text c) ∙ ap (λ (q : Profile). literals_text q i.literals ++ certificate_text c) (sym b.whole.1.profile_is));
    }

entry_begun : (version : Version) (bytes : List ℕ) (w : Wrong) → IsWrongEntry version bytes w → Begun (IsEntry version) bytes w
entry_begun version bytes w (inl (inl bad)) = start_begun version bytes w bad
entry_begun version bytes w (inl (inr i)) = in_literals_begun version bytes w i
entry_begun version bytes w (inr (inl i)) = in_certificate_begun version bytes w i
entry_begun version bytes w (inr (inr f)) =
    record { prefix = []; rest = bytes; bytes_are = refl; left_is = ap (λ (v : Wrong). v.left) (sym f.wrong_is); more = plan_text f.plan; whole = (f.plan, fitting_draft version f.plan.certificate.profile f.plan.literals f.plan.certificate (fits_list version f.plan f.has) (fits_certificate version f.plan f.has), refl) }

-- ---- files

-- the text is as many entries of drafts
abbrev AreDrafts : Version → ℕ → List ℕ → Type 0
AreDrafts version count text = (ps : List Plan) × (length ps ≡ count) × AllByRecursion (IsDraft version) ps × (text ≡ flat_map plan_text ps)

-- a draft of one literal, as many times
unfoldable some_drafts : ℕ → List Plan
some_drafts zero = []
some_drafts (suc n) = draft_of No Eight ((0 ∷ []) ∷ []) ∷ some_drafts n

length-some_drafts : (n : ℕ) → length (some_drafts n) ≡ n
unfolding some_drafts
length-some_drafts zero = refl
length-some_drafts (suc n) = omega (arith, length-some_drafts n)

all_some_drafts : (version : Version) (n : ℕ) → AllByRecursion (IsDraft version) (some_drafts n)
unfolding some_drafts
all_some_drafts version zero = tt
all_some_drafts version (suc n) = (draft_is version No Eight ((0 ∷ []) ∷ []) (eight_can version) (omega arith) (some_limit version) ((omega arith, omega arith), tt), all_some_drafts version n)

next_begun : (version : Version) (missing : ℕ) (rest : List ℕ) (w : Wrong) → IsWrongNext version missing rest w → Begun (AreDrafts version missing) rest w
next_begun version zero rest w wrong = record { prefix = []; rest = rest; bytes_are = refl; left_is = ap (λ (v : Wrong). v.left) (sym wrong.1); more = []; whole = ([], refl, tt, refl) }
next_begun version (suc missing) rest w wrong =
    let b = entry_begun version rest w wrong in
    let others = some_drafts missing in
    record {
      prefix = b.prefix;
      rest = b.rest;
      bytes_are = b.bytes_are;
      left_is = b.left_is;
      more = b.more ++ flat_map plan_text others;
      whole = (b.whole.0 ∷ others, omega (arith, length-some_drafts missing), (b.whole.1, all_some_drafts version missing), sym (append_assoc b.prefix b.more (flat_map plan_text others)) ∙ ap (λ (t : List ℕ). t ++ flat_map plan_text others) b.whole.2);
    }

-- a right plan is a draft
right_draft : (version : Version) (p : Plan) → IsPlan version p → IsDraft version p
right_draft version p is = fitting_draft version p.certificate.profile p.literals p.certificate (fits_list version p is.fields) (fits_certificate version p is.fields)

right_drafts : (version : Version) (ps qs : List Plan) → AllByRecursion (IsPlan version) ps → AllByRecursion (IsDraft version) qs → AllByRecursion (IsDraft version) (ps ++ qs)
right_drafts version [] qs ps_are qs_are = qs_are
right_drafts version (p ∷ ps) qs ps_are qs_are = (right_draft version p ps_are.0, right_drafts version ps qs ps_are.1 qs_are)

-- the text is a file of drafts
abbrev IsDraftFile : List ℕ → Type 0
IsDraftFile text = (version : Version) × (ps : List Plan) × (length ps ≤ 64) × AllByRecursion (IsDraft version) ps × (text ≡ spelling version ps)

-- a head, and as many entries as it says
headed : (version : Version) (count : ℕ) (prefix more : List ℕ) → count ≤ 64 → AreDrafts version count (prefix ++ more) → IsDraftFile ((head_text version count ++ prefix) ++ more)
headed version count prefix more few d =
    let ps = d.0 in
    (version, ps, omega (arith, d.1, few), d.2, append_assoc (head_text version count) prefix more ∙ ap (λ (t : List ℕ). head_text version count ++ t) d.3 ∙ ap (λ (n : ℕ). head_text version n ++ flat_map plan_text ps) (sym d.1))

wrong_begun : (text : List ℕ) (w : Wrong) → IsWrong text w → Begun IsDraftFile text w
wrong_begun text w (inl bad) =
    let b = part_begun FitsHead head_fields text w bad in
    let version = b.whole.0.0 in
    let count = b.whole.0.1 in
    let others = flat_map plan_text (some_drafts count) in
    let drafts : AreDrafts version count ([] ++ others) = (some_drafts count, length-some_drafts count, all_some_drafts version count, refl) in
    let file = headed version count [] others b.whole.1 drafts in
    let same : b.prefix ++ (b.more ++ others) ≡ (head_text version count ++ []) ++ others =
    sym (append_assoc b.prefix b.more others) ∙ ap (λ (t : List ℕ). t ++ others) (b.whole.2 ∙ sym (head_fields_text (version, count) [] ∙ append-nil (text_of (head_fields (version, count))))) in
    record { prefix = b.prefix; rest = b.rest; bytes_are = b.bytes_are; left_is = b.left_is; more = b.more ++ others; whole = subst IsDraftFile (sym same) file }
wrong_begun text w (inr h) =
    let head = head_text h.version h.count in
    let after = h.wrong in
    let plans = flat_map plan_text after.plans in
    let b = next_begun h.version (h.count - length after.plans) after.rest w after.wrong in
    let all = after.plans ++ b.whole.0 in
    let drafts : AreDrafts h.version h.count ((plans ++ b.prefix) ++ b.more) = (
      all,
      omega (arith, length-append after.plans b.whole.0, b.whole.1, after.within),
      right_drafts h.version after.plans b.whole.0 (recursion_from_All (IsPlan h.version) after.plans after.each) b.whole.2,
      append_assoc plans b.prefix b.more ∙ ap (λ (t : List ℕ). plans ++ t) b.whole.3 ∙ sym (flat_map-append plan_text after.plans b.whole.0),
    ) in
    record {
      prefix = head ++ (plans ++ b.prefix);
      rest = b.rest;
      bytes_are = h.text_is ∙ ap (λ (t : List ℕ). head ++ t) (after.text_is ∙ ap (λ (t : List ℕ). plans ++ t) b.bytes_are ∙ sym (append_assoc plans b.prefix b.rest)) ∙ sym (append_assoc head (plans ++ b.prefix) b.rest);
      left_is = b.left_is;
      more = b.more;
      whole = headed h.version h.count (plans ++ b.prefix) b.more h.few drafts;
    }

-- the bytes before the first fault begin a file of drafts
pub first_begun : (text : List ℕ) (place : ℕ) (cause : Cause) → IsFirstFault text place cause → BeginsDraft (take place text)
first_begun text place cause first =
    let w : Wrong = record { left = length text - place; cause = cause } in
    let b = wrong_begun text w first.wrong in
    let len : length b.prefix ≡ place = omega (arith, ap length b.bytes_are, length-append b.prefix b.rest, b.left_is, first.within) in
    let prefix : take place text ≡ b.prefix = ap (take place) b.bytes_are ∙ take_at b.prefix b.rest place len in
    record {
      version = b.whole.0;
      plans = b.whole.1;
      few = b.whole.2;
      each = All-from_recursion (IsDraft b.whole.0) b.whole.1 b.whole.3;
      more = b.more;
      spelled = ap (λ (t : List ℕ). t ++ b.more) prefix ∙ b.whole.4;
    }
