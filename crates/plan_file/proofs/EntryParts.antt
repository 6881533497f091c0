-- Entries: where reading one stops, or its certificate fails, it is wrong; one thing is wrong with it, and nothing
-- where a right plan stands.
use Rattle.std.proofs.Common.{◌≡◌, ℕ, ◌*◌, ◌≤◌, List, [], ◌∷◌, ◌++◌, length, map, Result, Ok, Err, inl, inr, refl, sym, ap, subst, ◌∙◌, append_assoc, arith}
use Rattle.std.specs.Int.{w16, w64, to_be_bytes}
use Rattle.std.proofs.lemmas.List.{length-append}
use Rattle.lit_base.specs.declared.profile.Profile.{Profile}
use Rattle.lit_base.specs.declared.profile.Profile.TheVariants.{Eight, Sixteen}
use Rattle.lit_base.specs.Literals.{Literals}
use Rattle.lit_base.specs.Profiles.{buckets}
use Rattle.lit_cert.specs.declared.reason.Reason.{Reason}
use Rattle.lit_cert.specs.Certificates.{CertificateParts}
use Rattle.lit_cert.specs.Certified.{IsFirstFailure}
use Rattle.lit_cert.proofs.Failures.{certified_or_fails, same_failure}
use Rattle.lit_plan.specs.Plans.{Plan}
use Rattle.plan_file.specs.declared.fault.Cause.TheVariants.{NotCertified, Short}
use Rattle.plan_file.specs.declared.fault.Wrong.{Wrong}
use Rattle.plan_file.specs.declared.version.Version.{Version}
use Rattle.plan_file.specs.FirstBad.{FitsCertificate, FitsList, IsFirstBad, certificate_fields, number_field, text_of}
use Rattle.plan_file.specs.FirstFaults.{IsWrongEntry, IsWrongInCertificate, IsWrongList}
use Rattle.plan_file.specs.Reading.{◌>>=◌, wrong_at, list_at, certificate_at, plan_at}
use Rattle.plan_file.specs.Spelling.{certificate_text, literals_text, numbers_text, plan_text, HasFields, IsPlan}
use Rattle.plan_file.proofs.FieldLemmas.{AreBytes, none_stopped, rest_bytes, stop}
use Rattle.plan_file.proofs.ListParts.{list_bad, list_bytes, list_within, longer_list, none_list, one_list, shift_at, texts_len, whole_fewer, whole_rest}
use Rattle.plan_file.proofs.PartLemmas.{Whole, bad_within, longer_bad, none_bad, one_bad, shift, text_of-append}
use Rattle.plan_file.proofs.Parts.{certificate_bad, certificate_steady, numbers_text_of}
use Rattle.plan_file.proofs.PlanLemmas.{limit_few, list_again, list_read, plan_again, plan_read}

-- a reader reads one value
pub one_value : {A : Type 0} {read : Result A Wrong} {x y : A} → read ≡ Ok x → read ≡ Ok y → x ≡ y
one_value here there = cc

-- ---- where reading stops

-- where reading an entry stops, it is wrong
pub entry_bad : (version : Version) (bytes : List ℕ) (e : Wrong) → AreBytes bytes → plan_at version bytes ≡ Err e → IsWrongEntry version bytes e
unfolding plan_at
entry_bad version bytes e are is =
    let made : Literals → CertificateParts × List ℕ → Result (Plan × List ℕ) Wrong = λ l c. Ok (record { literals = l; certificate = c.0 }, c.1) in
    elim (stop (list_at version bytes) (λ l. certificate_at l.0.0 (length l.0.1.texts) l.1 >>= made l.0.1) e is) [
      | inl f ↦ inl (list_bad version bytes e are f)
      | inr p ↦
          let profile = p.0.0.0 in
          let l = p.0.0.1 in
          let read = list_read version bytes p.0 are p.1 in
          elim (stop (certificate_at profile (length l.texts) p.0.1) (made l) e p.2) [
            | inl f ↦ inr (inl (record {
              profile = profile;
              literals = l;
              fits = record { normal = read.normal; some = read.some; few = read.few; can = read.profile };
              rest = p.0.1;
              bytes_are = read.took;
              wrong = certificate_bad profile (length l.texts) p.0.1 e (rest_bytes (literals_text profile l) p.0.1 read.took are) f;
            }))
            | inr q ↦ absurd (none_stopped q.2)
          ]
    ]

-- where an entry is read whose certificate fails, it is wrong
pub failure_bad : (version : Version) (bytes rest : List ℕ) (p : Plan) (reason : Reason) → AreBytes bytes → plan_at version bytes ≡ Ok (p, rest) → IsFirstFailure p.literals p.certificate reason → IsWrongEntry version bytes (wrong_at (NotCertified reason) bytes)
failure_bad version bytes rest p reason are is first =
    let read = plan_read version bytes (p, rest) are is in
    inr (inr (record { plan = p; has = read.fields; rest = rest; bytes_are = read.took; reason = reason; first = first; wrong_is = refl }))

-- ---- certificates

-- the literals of a plan fit
pub fits_list : (version : Version) (p : Plan) → HasFields version p → FitsList version p.certificate.profile p.literals
fits_list version p has = record { normal = has.normal; some = has.some; few = has.few; can = has.profile }

-- and so does its certificate
pub fits_certificate : (version : Version) (p : Plan) → HasFields version p → FitsCertificate p.certificate.profile (length p.literals.texts) p.certificate
fits_certificate version p has = record {
  profile_is = refl;
  some_ends = has.some_ends;
  few_ends = has.few_ends;
  small_ends = has.small_ends;
  small_cost = has.small_cost;
  potentials = has.potentials;
  small_potentials = has.small_potentials;
}

-- the fields of a certificate are its spelling
pub certificate_fields_text : (c : CertificateParts) → text_of (certificate_fields c) ≡ certificate_text c
certificate_fields_text c =
    let ends = map (number_field w16 Short) c.ends in
    let potentials = map (number_field w64 Short) c.potentials in
    ap (λ (t : List ℕ). length c.ends ∷ t) (text_of-append ends (number_field w64 Short c.cost ∷ potentials) ∙ ap (λ (t : List ℕ). t ++ text_of (number_field w64 Short c.cost ∷ potentials)) (numbers_text_of w16 Short c.ends)
    ∙ ap (λ (t : List ℕ). numbers_text w16 c.ends ++ (to_be_bytes w64 c.cost ++ t)) (numbers_text_of w64 Short c.potentials))

-- an entry is its literals, and its certificate
entry_text : (p : Plan) (rest : List ℕ) → plan_text p ++ rest ≡ literals_text p.certificate.profile p.literals ++ (certificate_text p.certificate ++ rest)
unfolding plan_text
entry_text p rest = append_assoc (literals_text p.certificate.profile p.literals) (certificate_text p.certificate) rest

-- literals that were read, and the bytes after them
abbrev Listed : Type 0
Listed = (Profile × Literals) × List ℕ

-- two lists at the start of one text are one
one_listed : (version : Version) (profile other : Profile) (l k : Literals) (s t : List ℕ) → FitsList version profile l → FitsList version other k → literals_text profile l ++ s ≡ literals_text other k ++ t → ◌≡◌ {A = Listed} ((profile, l), s) ((other, k), t)
one_listed version profile other l k s t fl fk e =
    one_value (list_again version profile l s fl.normal fl.some fl.few fl.can) (ap (list_at version) e ∙ list_again version other k t fk.normal fk.some fk.few fk.can)

-- the first bad field of a certificate after literals
abbrev BadAfter : Wrong → Listed → Type 0
BadAfter w x = IsFirstBad (FitsCertificate x.0.0 (length x.0.1.texts)) certificate_fields x.1 w

-- after the same literals one thing is wrong
one_certificate : (w v : Wrong) (x : Listed) → BadAfter w x → BadAfter v x → w ≡ v
one_certificate w v x a b = one_bad (FitsCertificate x.0.0 (length x.0.1.texts)) certificate_fields (certificate_steady x.0.0 (length x.0.1.texts)) x.1 w v a b

-- nothing is wrong with the certificate of a whole entry
none_certificate : (version : Version) (bytes : List ℕ) (p : Plan) (rest : List ℕ) (w : Wrong) → HasFields version p → bytes ≡ plan_text p ++ rest → IsWrongInCertificate version bytes w → ⊥
none_certificate version bytes p rest w has e i =
    let profile = p.certificate.profile in
    let after = certificate_text p.certificate ++ rest in
    let same : ◌≡◌ {A = Listed} ((i.profile, i.literals), i.rest) ((profile, p.literals), after) = one_listed version i.profile profile i.literals p.literals i.rest after i.fits (fits_list version p has) (sym i.bytes_are ∙ e ∙ entry_text p rest) in
    let bad : BadAfter w ((profile, p.literals), after) = subst (BadAfter w) same i.wrong in
    none_bad (FitsCertificate profile (length p.literals.texts)) certificate_fields (certificate_steady profile (length p.literals.texts)) after rest w p.certificate (fits_certificate version p has) (ap (λ (t : List ℕ). t ++ rest) (sym (certificate_fields_text p.certificate))) bad

-- nor with its literals
none_in_list : (version : Version) (bytes : List ℕ) (p : Plan) (rest : List ℕ) (w : Wrong) → HasFields version p → bytes ≡ plan_text p ++ rest → IsWrongList version bytes w → ⊥
none_in_list version bytes p rest w has e wrong = none_list version bytes p.certificate.profile p.literals (certificate_text p.certificate ++ rest) w (fits_list version p has) (e ∙ entry_text p rest) wrong

-- ---- entries

-- two entries at the start of one text are one
pub one_plan : (version : Version) (p q : Plan) (s t : List ℕ) → HasFields version p → HasFields version q → plan_text p ++ s ≡ plan_text q ++ t → ◌≡◌ {A = Plan × List ℕ} (p, s) (q, t)
one_plan version p q s t has also e = one_value (plan_again version p s has) (ap (plan_at version) e ∙ plan_again version q t also)

-- where a right plan stands, nothing is wrong with the entry
pub right_entry : (version : Version) (p : Plan) (bytes rest : List ℕ) (w : Wrong) → IsPlan version p → bytes ≡ plan_text p ++ rest → IsWrongEntry version bytes w → ⊥
right_entry version p bytes rest w is e (inl wrong) = none_in_list version bytes p rest w is.fields e wrong
right_entry version p bytes rest w is e (inr (inl wrong)) = none_certificate version bytes p rest w is.fields e wrong
right_entry version p bytes rest w is e (inr (inr f)) =
    let same : f.plan ≡ p = ap (λ (x : Plan × List ℕ). x.0) (one_plan version f.plan p f.rest rest f.has is.fields (sym f.bytes_are ∙ e)) in
    certified_or_fails (buckets p.certificate.profile) p.literals p.certificate f.reason is.certified (subst (λ (q : Plan). IsFirstFailure q.literals q.certificate f.reason) same f.first)

-- one thing is wrong with an entry
pub one_entry : (version : Version) (bytes : List ℕ) (w v : Wrong) → IsWrongEntry version bytes w → IsWrongEntry version bytes v → w ≡ v
one_entry version bytes w v (inl a) (inl b) = one_list version bytes w v a b
one_entry version bytes w v (inl a) (inr (inl b)) = absurd (none_list version bytes b.profile b.literals b.rest w b.fits b.bytes_are a)
one_entry version bytes w v (inl a) (inr (inr f)) = absurd (none_in_list version bytes f.plan f.rest w f.has f.bytes_are a)
one_entry version bytes w v (inr (inl a)) (inl b) = absurd (none_list version bytes a.profile a.literals a.rest v a.fits a.bytes_are b)
one_entry version bytes w v (inr (inl a)) (inr (inl b)) =
    let same : ◌≡◌ {A = Listed} ((a.profile, a.literals), a.rest) ((b.profile, b.literals), b.rest) = one_listed version a.profile b.profile a.literals b.literals a.rest b.rest a.fits b.fits (sym a.bytes_are ∙ b.bytes_are) in
    one_certificate w v ((b.profile, b.literals), b.rest) (subst (BadAfter w) same a.wrong) b.wrong
one_entry version bytes w v (inr (inl a)) (inr (inr f)) = absurd (none_certificate version bytes f.plan f.rest w f.has f.bytes_are a)
one_entry version bytes w v (inr (inr f)) (inl b) = absurd (none_in_list version bytes f.plan f.rest v f.has f.bytes_are b)
one_entry version bytes w v (inr (inr f)) (inr (inl b)) = absurd (none_certificate version bytes f.plan f.rest v f.has f.bytes_are b)
one_entry version bytes w v (inr (inr f)) (inr (inr g)) =
    let p = f.plan in
    let same : g.plan ≡ p = ap (λ (x : Plan × List ℕ). x.0) (one_plan version g.plan p g.rest f.rest g.has f.has (sym g.bytes_are ∙ f.bytes_are)) in
    let reasons : f.reason ≡ g.reason = same_failure (buckets p.certificate.profile) p.literals p.certificate f.reason g.reason f.first (subst (λ (q : Plan). IsFirstFailure q.literals q.certificate g.reason) same g.first) in
    f.wrong_is ∙ ap (λ (reason : Reason). wrong_at (NotCertified reason) bytes) reasons ∙ sym g.wrong_is

-- ---- with more bytes after them

ends_len : (ns : List ℕ) → length (numbers_text w16 ns) ≡ 2 * length ns
ends_len [] = refl
ends_len (n ∷ ns) = omega (arith, length-append (to_be_bytes w16 n) (numbers_text w16 ns), ends_len ns)

potentials_len : (ns : List ℕ) → length (numbers_text w64 ns) ≡ 8 * length ns
potentials_len [] = refl
potentials_len (n ∷ ns) = omega (arith, length-append (to_be_bytes w64 n) (numbers_text w64 ns), potentials_len ns)

few_runs : (profile : Profile) → buckets profile ≤ 16
few_runs Eight = omega arith
few_runs Sixteen = omega arith

few_rows : (profile : Profile) (n : ℕ) → n ≤ 4096 → 8 * (buckets profile * n) ≤ 524288
few_rows Eight n few = omega (arith, few)
few_rows Sixteen n few = omega (arith, few)

-- the certificate of an entry has no more bytes, in either version
abbrev certificate_bytes : ℕ
certificate_bytes = 524329

certificate_few : (profile : Profile) (n : ℕ) → n ≤ 4096 → (c : CertificateParts) → FitsCertificate profile n c → length (text_of (certificate_fields c)) ≤ certificate_bytes
certificate_few profile n few c fits =
    let numbers = to_be_bytes w64 c.cost ++ numbers_text w64 c.potentials in
    omega (
      arith,
      ap length (certificate_fields_text c),
      length-append (numbers_text w16 c.ends) numbers,
      ends_len c.ends,
      length-append (to_be_bytes w64 c.cost) (numbers_text w64 c.potentials),
      potentials_len c.potentials,
      fits.potentials,
      few_rows profile n few,
      fits.few_ends,
      few_runs profile,
    )

literals_len : (version : Version) (profile : Profile) (l : Literals) → FitsList version profile l → length (literals_text profile l) ≤ list_bytes
literals_len version profile l fits = omega (arith, texts_len l.texts, fits.normal.small, fits.few, limit_few version)

-- an entry has no more bytes
abbrev pub most_bytes : ℕ
most_bytes = 1581100

pub longer_entry : (version : Version) (bytes tail : List ℕ) (w : Wrong) → Whole most_bytes bytes w → IsWrongEntry version bytes w → IsWrongEntry version (bytes ++ tail) (shift (length tail) w)
longer_entry version bytes tail w whole (inl wrong) = inl (longer_list version bytes tail w (whole_fewer list_bytes most_bytes bytes w (omega arith) whole) wrong)
longer_entry version bytes tail w whole (inr (inl i)) =
    let prefix = literals_text i.profile i.literals in
    let n = length i.literals.texts in
    let enough : most_bytes ≤ length bytes → certificate_bytes ≤ length i.rest = λ le. omega (arith, le, ap length i.bytes_are, length-append prefix i.rest, literals_len version i.profile i.literals i.fits) in
    inr (inl (record {
      profile = i.profile;
      literals = i.literals;
      fits = i.fits;
      rest = i.rest ++ tail;
      bytes_are = ap (λ (t : List ℕ). t ++ tail) i.bytes_are ∙ append_assoc prefix i.rest tail;
      wrong = longer_bad (FitsCertificate i.profile n) certificate_fields (certificate_steady i.profile n) certificate_bytes (certificate_few i.profile n (omega (arith, i.fits.few, limit_few version))) i.rest tail w
          (whole_rest most_bytes certificate_bytes bytes i.rest w enough whole) i.wrong;
    }))
longer_entry version bytes tail w whole (inr (inr f)) =
    inr (inr (record {
      plan = f.plan;
      has = f.has;
      rest = f.rest ++ tail;
      bytes_are = ap (λ (t : List ℕ). t ++ tail) f.bytes_are ∙ append_assoc (plan_text f.plan) f.rest tail;
      reason = f.reason;
      first = f.first;
      wrong_is = ap (shift (length tail)) f.wrong_is ∙ shift_at (NotCertified f.reason) bytes tail;
    }))

-- it stands within the bytes
pub entry_within : (version : Version) (bytes : List ℕ) (w : Wrong) → IsWrongEntry version bytes w → w.left ≤ length bytes
entry_within version bytes w (inl wrong) = list_within version bytes w wrong
entry_within version bytes w (inr (inl i)) = omega (arith, bad_within (FitsCertificate i.profile (length i.literals.texts)) certificate_fields i.rest w i.wrong, ap length i.bytes_are, length-append (literals_text i.profile i.literals) i.rest)
entry_within version bytes w (inr (inr f)) = omega (arith, ap (λ (x : Wrong). x.left) f.wrong_is)

-- the bytes of an entry
pub plan_len : (version : Version) (p : Plan) → IsPlan version p → length (plan_text p) ≤ most_bytes
unfolding plan_text
plan_len version p is =
    let n = length p.literals.texts in
    omega (
      arith,
      length-append (literals_text p.certificate.profile p.literals) (certificate_text p.certificate),
      literals_len version p.certificate.profile p.literals (fits_list version p is.fields),
      ap length (certificate_fields_text p.certificate),
      certificate_few p.certificate.profile n (omega (arith, is.fields.few, limit_few version)) p.certificate (fits_certificate version p is.fields),
    )
