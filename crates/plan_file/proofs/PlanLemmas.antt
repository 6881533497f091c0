-- Entries that are read are the entries that were written, and entries that were written are read again.
use Rattle.std.proofs.Common.{◌≡◌, ℕ, zero, suc, ◌*◌, ◌^◌, ◌<◌, ◌≤◌, Bool, true, leb, eqb, ◌&&◌, List, [], ◌∷◌, ◌++◌, length, Result, Ok, refl, sym, ap, subst, ◌∙◌, append_assoc, arith}
use Rattle.std.specs.List.{flat_map, AllByRecursion}
use Rattle.std.specs.Int.{w16, w32, w64, to_be_bytes}
use Rattle.std.proofs.lemmas.Bool.Decides.{nat_tests}
use Rattle.std.proofs.lemmas.Bool.{eqb-true}
use Rattle.std.proofs.lemmas.List.Elements.{All-from_recursion, recursion_from_All}
use Rattle.std.proofs.lemmas.Result.{IfOk-at_ok}
use Rattle.lit_base.specs.Flags.{flags_of, fold_of, profile_of}
use Rattle.lit_base.specs.declared.fold.Fold.{Fold}
use Rattle.lit_base.specs.declared.fold.Fold.TheVariants.{No, Ascii}
use Rattle.lit_base.specs.declared.limits.TheConstants.{MAX_LIST_LEN}
use Rattle.lit_base.specs.declared.profile.Profile.{Profile}
use Rattle.lit_base.specs.declared.profile.Profile.TheVariants.{Eight, Sixteen}
use Rattle.lit_base.specs.Literals.{Literals, IsNormal}
use Rattle.lit_base.specs.Profiles.{buckets}
use Rattle.lit_cert.specs.Certificates.{CertificateParts}
use Rattle.lit_plan.specs.Plans.{Plan}
use Rattle.plan_file.specs.declared.fault.Cause.TheVariants.{Magic, Version as wrong_version, Count, Flags, Runs}
use Rattle.plan_file.specs.declared.fault.Wrong.{Wrong}
use Rattle.plan_file.specs.declared.version.Version.{Version}
use Rattle.plan_file.specs.declared.version.Version.TheVariants.{One, Two}
use Rattle.plan_file.specs.Reading.{◌>>=◌, byte_at, number_at, field, numbers_at, literals_at, last_flags, list_at, certificate_at, plan_at, version_of, head_at}
use Rattle.plan_file.specs.Spelling.{CanExpress, limit_of, numbers_text, literal_text, literals_text, certificate_text, plan_text, head_text, version_number, HasFields}
use Rattle.plan_file.proofs.FieldLemmas.{AreBytes, Took, took_both, rest_bytes, step, field_read, field_again, byte_read, number_read, number_again, numbers_read, numbers_again}
use Rattle.plan_file.proofs.LiteralLemmas.{literals_read, literals_follow, literals_again, normal_from, follow_normal}

-- ---- flags

abbrev pub is_flag : Version → ℕ → Bool
is_flag version b = leb b (last_flags version)

abbrev pub is_count : ℕ → ℕ → Bool
is_count limit n = leb 1 n && leb n limit

pub between : (low high n : ℕ) → (leb low n && leb n high) ≡ true → (low ≤ n) × (n ≤ high)
between low high n e = (grind (arith, nat_tests), grind (arith, nat_tests))

pub between_from : (low high n : ℕ) → low ≤ n → n ≤ high → (leb low n && leb n high) ≡ true
between_from low high n l h = grind (arith, nat_tests)

pub below_from : (n high : ℕ) → n ≤ high → leb n high ≡ true
below_from n high h = grind (arith, nat_tests)

pub at_most : (n high : ℕ) → leb n high ≡ true → n ≤ high
at_most n high e = grind (arith, nat_tests)

pub last_few : (version : Version) → last_flags version ≤ 3
last_few One = omega arith
last_few Two = omega arith

-- a byte is the byte of its fold and profile
pub flags_again : (b : ℕ) → b ≤ 3 → b ≡ flags_of (fold_of b) (profile_of b)
flags_again zero le = refl
flags_again (suc zero) le = refl
flags_again (suc (suc zero)) le = refl
flags_again (suc (suc (suc zero))) le = refl
flags_again (suc (suc (suc (suc b)))) le = absurd (omega (arith, le))

-- it has no profile that the version cannot spell
pub flags_can : (version : Version) (b : ℕ) → b ≤ last_flags version → CanExpress version (profile_of b)
flags_can One zero le = refl
flags_can One (suc zero) le = refl
flags_can One (suc (suc b)) le = absurd (omega (arith, le))
flags_can Two b le = tt

pub flags_pass : (version : Version) (fold : Fold) (profile : Profile) → CanExpress version profile → is_flag version (flags_of fold profile) ≡ true
flags_pass One No Eight can = refl
flags_pass One Ascii Eight can = refl
flags_pass One fold Sixteen can = absurd cc
flags_pass Two No Eight can = refl
flags_pass Two Ascii Eight can = refl
flags_pass Two No Sixteen can = refl
flags_pass Two Ascii Sixteen can = refl

pub fold_again : (fold : Fold) (profile : Profile) → fold_of (flags_of fold profile) ≡ fold
fold_again No Eight = refl
fold_again Ascii Eight = refl
fold_again No Sixteen = refl
fold_again Ascii Sixteen = refl

pub profile_again : (fold : Fold) (profile : Profile) → profile_of (flags_of fold profile) ≡ profile
profile_again No Eight = refl
profile_again Ascii Eight = refl
profile_again No Sixteen = refl
profile_again Ascii Sixteen = refl

-- ---- literals

-- no version has room for more literals than a list has
pub limit_few : (version : Version) → limit_of version ≤ 4096
limit_few One = omega arith
limit_few Two = omega arith

-- the literals that were read
pub record ListRead (version : Version) (bytes : List ℕ) (x : (Profile × Literals) × List ℕ) : Type 0 where
  pub took : Took bytes (literals_text x.0.0 x.0.1) x.1
  pub normal : IsNormal x.0.1
  pub some : 1 ≤ length x.0.1.texts
  pub few : length x.0.1.texts ≤ limit_of version
  pub profile : CanExpress version x.0.0

-- the literals were read, so their spelling stands at the start
pub list_read : (version : Version) (bytes : List ℕ) (x : (Profile × Literals) × List ℕ) → AreBytes bytes → list_at version bytes ≡ Ok x → ListRead version bytes x
unfolding list_at
list_read version bytes x are e =
    let limit = limit_of version in
    let made : ℕ × List ℕ → List (List ℕ) × List ℕ → (Profile × Literals) × List ℕ = λ flags texts. ((profile_of flags.0, record { folding = fold_of flags.0; texts = texts.0 }), texts.1) in
    let after : ℕ × List ℕ → ℕ × List ℕ → Result ((Profile × Literals) × List ℕ) Wrong = λ flags n. literals_at (fold_of flags.0) n.0 MAX_LIST_LEN [] n.1 >>= λ texts. Ok (made flags texts) in
    let a = step (field bytes (is_flag version) Flags (byte_at bytes)) (λ flags. field flags.1 (is_count limit) Count (number_at w16 flags.1) >>= after flags) x e in
    let flags = a.value.0 in
    let b = step (field a.value.1 (is_count limit) Count (number_at w16 a.value.1)) (after a.value) x a.second in
    let count = b.value.0 in
    let d = step (literals_at (fold_of flags) count MAX_LIST_LEN [] b.value.1) (λ texts. Ok (made a.value texts)) x b.second in
    let texts = d.value.0 in
    let flag = field_read bytes (is_flag version) Flags (byte_at bytes) a.value a.first in
    let number = field_read a.value.1 (is_count limit) Count (number_at w16 a.value.1) b.value b.first in
    let t0 = byte_read bytes a.value flag.0 in
    let are1 = rest_bytes (flags ∷ []) a.value.1 t0 are in
    let t1 = (number_read w16 tt a.value.1 b.value are1 number.0).0 in
    let t2 = literals_read (fold_of flags) count MAX_LIST_LEN [] b.value.1 d.value (rest_bytes (to_be_bytes w16 count) b.value.1 t1 are1) d.first in
    let follow = literals_follow (fold_of flags) count MAX_LIST_LEN [] b.value.1 d.value d.first in
    let size : length texts ≡ count = follow.0 in
    let range = between 1 limit count number.1 in
    let known = at_most flags (last_flags version) flag.1 in
    let all = took_both (flags ∷ []) (to_be_bytes w16 count ++ flat_map literal_text texts) d.value.1 t0 (took_both (to_be_bytes w16 count) (flat_map literal_text texts) d.value.1 t1 t2) in
    let counted = subst (λ (k : ℕ). Took bytes (flags ∷ (to_be_bytes w16 k ++ flat_map literal_text texts)) d.value.1) (sym {a = length texts} size) all in
    let flagged = subst (λ (k : ℕ). Took bytes (k ∷ (to_be_bytes w16 (length texts) ++ flat_map literal_text texts)) d.value.1) (flags_again flags (omega (arith, known, last_few version))) counted in
    IfOk-at_ok (ListRead version bytes) {r = Ok (made a.value d.value)} d.second (record {
      took = flagged;
      normal = normal_from (fold_of flags) texts (omega (arith, follow.0, range.1, limit_few version)) follow.1;
      some = omega (arith, follow.0, range.0);
      few = omega (arith, follow.0, range.1);
      profile = flags_can version flags known;
    })

list_again_with : (version : Version) (profile : Profile) (fold : Fold) (texts : List (List ℕ)) (rest : List ℕ) → IsNormal (record { folding = fold; texts = texts }) → 1 ≤ length texts → length texts ≤ limit_of version → CanExpress version profile
    → list_at version (flags_of fold profile ∷ (to_be_bytes w16 (length texts) ++ (flat_map literal_text texts ++ rest))) ≡ Ok ((profile, record { folding = fold; texts = texts }), rest)
unfolding list_at
list_again_with version profile fold texts rest normal some few can =
    let limit = limit_of version in
    let after = flat_map literal_text texts ++ rest in
    let bytes = to_be_bytes w16 (length texts) ++ after in
    let n = field_again bytes (is_count limit) Count (number_at w16 bytes) (length texts, after) (number_again w16 tt (length texts) after (omega (arith, normal.few))) (between_from 1 limit (length texts) some few) in
    rw (flags_pass version fold profile can, n, fold_again fold profile, profile_again fold profile, literals_again fold MAX_LIST_LEN [] texts rest (follow_normal (record { folding = fold; texts = texts }) normal)) refl

pub list_again : (version : Version) (profile : Profile) (l : Literals) (rest : List ℕ) → IsNormal l → 1 ≤ length l.texts → length l.texts ≤ limit_of version → CanExpress version profile → list_at version (literals_text profile l ++ rest) ≡ Ok ((profile, l), rest)
list_again version profile l rest normal some few can =
    let flags = flags_of l.folding profile in
    let regrouped : literals_text profile l ++ rest ≡ flags ∷ (to_be_bytes w16 (length l.texts) ++ (flat_map literal_text l.texts ++ rest)) =
    ap (λ (t : List ℕ). flags ∷ t) (append_assoc (to_be_bytes w16 (length l.texts)) (flat_map literal_text l.texts) rest) in
    ap (list_at version) regrouped ∙ list_again_with version profile l.folding l.texts rest normal some few can

-- ---- certificates

-- the fields of a certificate for n literals hold what they can
pub record CertificateFits (n : ℕ) (c : CertificateParts) : Type 0 where
  pub some_ends : 1 ≤ length c.ends
  pub few_ends : length c.ends ≤ buckets c.profile
  pub small_ends : AllByRecursion (λ e. e < 2 ^ 16) c.ends
  pub small_cost : c.cost < 2 ^ 64
  pub potentials : length c.potentials ≡ buckets c.profile * n
  pub small_potentials : AllByRecursion (λ h. h < 2 ^ 64) c.potentials

-- a certificate that was read
pub record CertificateRead (profile : Profile) (n : ℕ) (bytes : List ℕ) (x : CertificateParts × List ℕ) : Type 0 where
  pub took : Took bytes (certificate_text x.0) x.1
  pub fits : CertificateFits n x.0
  pub profile_is : x.0.profile ≡ profile

-- a certificate was read, so its spelling stands at the start
pub certificate_read : (profile : Profile) (n : ℕ) (bytes : List ℕ) (x : CertificateParts × List ℕ) → AreBytes bytes → certificate_at profile n bytes ≡ Ok x → CertificateRead profile n bytes x
unfolding certificate_at
certificate_read profile n bytes x are e =
    let most = buckets profile in
    let made : List ℕ → ℕ → List ℕ × List ℕ → CertificateParts × List ℕ = λ ends cost hs. (record { profile = profile; ends = ends; cost = cost; potentials = hs.0 }, hs.1) in
    let a = step (field bytes (is_count most) Runs (byte_at bytes)) (λ runs. numbers_at w16 runs.0 runs.1 >>= λ ends. number_at w64 ends.1 >>= λ cost. numbers_at w64 (most * n) cost.1 >>= λ hs. Ok (made ends.0 cost.0 hs)) x e in
    let b = step (numbers_at w16 a.value.0 a.value.1) (λ ends. number_at w64 ends.1 >>= λ cost. numbers_at w64 (most * n) cost.1 >>= λ hs. Ok (made ends.0 cost.0 hs)) x a.second in
    let d = step (number_at w64 b.value.1) (λ cost. numbers_at w64 (most * n) cost.1 >>= λ hs. Ok (made b.value.0 cost.0 hs)) x b.second in
    let h = step (numbers_at w64 (most * n) d.value.1) (λ hs. Ok (made b.value.0 d.value.0 hs)) x d.second in
    let runs = field_read bytes (is_count most) Runs (byte_at bytes) a.value a.first in
    let ends_text = numbers_text w16 b.value.0 in
    let cost_text = to_be_bytes w64 d.value.0 in
    let rows_text = numbers_text w64 h.value.0 in
    let t0 = byte_read bytes a.value runs.0 in
    let are1 = rest_bytes (a.value.0 ∷ []) a.value.1 t0 are in
    let ends = numbers_read w16 tt a.value.0 a.value.1 b.value are1 b.first in
    let are2 = rest_bytes ends_text b.value.1 ends.0 are1 in
    let cost = number_read w64 tt b.value.1 d.value are2 d.first in
    let rows = numbers_read w64 tt (most * n) d.value.1 h.value (rest_bytes cost_text d.value.1 cost.0 are2) h.first in
    let size : length b.value.0 ≡ a.value.0 = ends.1 in
    let range = between 1 most a.value.0 runs.1 in
    let numbers = took_both ends_text (cost_text ++ rows_text) h.value.1 ends.0 (took_both cost_text rows_text h.value.1 cost.0 rows.0) in
    let all = took_both (a.value.0 ∷ []) (ends_text ++ (cost_text ++ rows_text)) h.value.1 t0 numbers in
    IfOk-at_ok (CertificateRead profile n bytes) {r = Ok (made b.value.0 d.value.0 h.value)} h.second (record {
      took = subst (λ (k : ℕ). Took bytes (k ∷ (ends_text ++ (cost_text ++ rows_text))) h.value.1) (sym {a = length b.value.0} size) all;
      fits = record {
        some_ends = omega (arith, ends.1, range.0);
        few_ends = omega (arith, ends.1, range.1);
        small_ends = ends.2;
        small_cost = cost.1;
        potentials = rows.1;
        small_potentials = rows.2;
      };
      profile_is = refl;
    })

pub certificate_again : (n : ℕ) (c : CertificateParts) (rest : List ℕ) → CertificateFits n c → certificate_at c.profile n (certificate_text c ++ rest) ≡ Ok (c, rest)
unfolding certificate_at
certificate_again n c rest fits =
    let most = buckets c.profile in
    let hs = numbers_text w64 c.potentials ++ rest in
    let cost = to_be_bytes w64 c.cost ++ hs in
    let ends = numbers_text w16 c.ends ++ cost in
    let regrouped : certificate_text c ++ rest ≡ length c.ends ∷ ends =
    ap (λ (t : List ℕ). length c.ends ∷ t) (append_assoc (numbers_text w16 c.ends) (to_be_bytes w64 c.cost ++ numbers_text w64 c.potentials) rest ∙ ap (λ (t : List ℕ). numbers_text w16 c.ends ++ t) (append_assoc (to_be_bytes w64 c.cost) (numbers_text w64 c.potentials) rest)) in
    let potentials : numbers_at w64 (most * n) hs ≡ Ok (c.potentials, rest) = ap (λ (k : ℕ). numbers_at w64 k hs) (sym fits.potentials) ∙ numbers_again w64 tt c.potentials rest fits.small_potentials in
    ap (certificate_at c.profile n) regrouped
    ∙ rw (between_from 1 most (length c.ends) fits.some_ends fits.few_ends, numbers_again w16 tt c.ends cost fits.small_ends, number_again w64 tt c.cost hs fits.small_cost, potentials) refl

-- ---- entries

-- an entry that was read
pub record PlanRead (version : Version) (bytes : List ℕ) (x : Plan × List ℕ) : Type 0 where
  pub took : Took bytes (plan_text x.0) x.1
  pub fields : HasFields version x.0

-- an entry was read, so its spelling stands at the start
pub plan_read : (version : Version) (bytes : List ℕ) (x : Plan × List ℕ) → AreBytes bytes → plan_at version bytes ≡ Ok x → PlanRead version bytes x
unfolding plan_at plan_text
plan_read version bytes x are e =
    let made : Literals → CertificateParts × List ℕ → Plan × List ℕ = λ l c. (record { literals = l; certificate = c.0 }, c.1) in
    let a = step (list_at version bytes) (λ l. certificate_at l.0.0 (length l.0.1.texts) l.1 >>= λ c. Ok (made l.0.1 c)) x e in
    let profile = a.value.0.0 in
    let literals = a.value.0.1 in
    let b = step (certificate_at profile (length literals.texts) a.value.1) (λ c. Ok (made literals c)) x a.second in
    let certificate = b.value.0 in
    let l = list_read version bytes a.value are a.first in
    let c = certificate_read profile (length literals.texts) a.value.1 b.value (rest_bytes (literals_text profile literals) a.value.1 l.took are) b.first in
    let profile_is = subst (λ (profile : Profile). Took bytes (literals_text profile literals) a.value.1) (sym c.profile_is) l.took in
    IfOk-at_ok (PlanRead version bytes) {r = Ok (made literals b.value)} b.second (record {
      took = took_both (literals_text certificate.profile literals) (certificate_text certificate) b.value.1 profile_is c.took;
      fields = record {
        normal = l.normal;
        some = l.some;
        few = l.few;
        profile = subst (CanExpress version) (sym c.profile_is) l.profile;
        some_ends = c.fits.some_ends;
        few_ends = c.fits.few_ends;
        small_ends = All-from_recursion (λ e. e < 2 ^ 16) certificate.ends c.fits.small_ends;
        small_cost = c.fits.small_cost;
        potentials = c.fits.potentials;
        small_potentials = All-from_recursion (λ h. h < 2 ^ 64) certificate.potentials c.fits.small_potentials;
      };
    })

pub plan_again : (version : Version) (p : Plan) (rest : List ℕ) → HasFields version p → plan_at version (plan_text p ++ rest) ≡ Ok (p, rest)
unfolding plan_at plan_text
plan_again version p rest has =
    let profile = p.certificate.profile in
    let certificate = certificate_text p.certificate ++ rest in
    let fits : CertificateFits (length p.literals.texts) p.certificate = record {
      some_ends = has.some_ends;
      few_ends = has.few_ends;
      small_ends = recursion_from_All (λ e. e < 2 ^ 16) p.certificate.ends has.small_ends;
      small_cost = has.small_cost;
      potentials = has.potentials;
      small_potentials = recursion_from_All (λ h. h < 2 ^ 64) p.certificate.potentials has.small_potentials;
    } in
    ap (plan_at version) (append_assoc (literals_text profile p.literals) (certificate_text p.certificate) rest)
    ∙ rw (list_again version profile p.literals certificate has.normal has.some has.few has.profile, certificate_again (length p.literals.texts) p.certificate rest fits) refl

-- ---- heads

abbrev pub is_number : ℕ → ℕ → Bool
is_number k n = eqb n k

abbrev pub is_few : ℕ → Bool
is_few n = leb n 64

-- a number that is 1 or 2 is the number of its version
pub version_again : (number : ℕ) → 1 ≤ number → number ≤ 2 → number ≡ version_number (version_of number)
version_again zero some few = absurd (omega (arith, some))
version_again (suc zero) some few = refl
version_again (suc (suc zero)) some few = refl
version_again (suc (suc (suc number))) some few = absurd (omega (arith, few))

pub version_passes : (version : Version) → is_count 2 (version_number version) ≡ true
version_passes One = refl
version_passes Two = refl

version_known : (version : Version) → version_of (version_number version) ≡ version
version_known One = refl
version_known Two = refl

pub version_small : (version : Version) → version_number version < 2 ^ 16
version_small One = omega arith
version_small Two = omega arith

-- a head was read, so its spelling stands at the start
pub head_read : (bytes : List ℕ) (x : (Version × ℕ) × List ℕ) → AreBytes bytes → head_at bytes ≡ Ok x → Took bytes (head_text x.0.0 x.0.1) x.1 × (x.0.1 ≤ 64)
unfolding head_at head_text
head_read bytes x are e =
    let made : ℕ → ℕ × List ℕ → (Version × ℕ) × List ℕ = λ version count. ((version_of version, count.0), count.1) in
    let third : ℕ × List ℕ → Result ((Version × ℕ) × List ℕ) Wrong = λ version. field version.1 is_few Count (number_at w16 version.1) >>= λ count. Ok (made version.0 count) in
    let a = step (field bytes (is_number 0x4C504C46) Magic (number_at w32 bytes)) (λ magic. field magic.1 (is_count 2) wrong_version (number_at w16 magic.1) >>= third) x e in
    let b = step (field a.value.1 (is_count 2) wrong_version (number_at w16 a.value.1)) third x a.second in
    let d = step (field b.value.1 is_few Count (number_at w16 b.value.1)) (λ count. Ok (made b.value.0 count)) x b.second in
    let magic = field_read bytes (is_number 0x4C504C46) Magic (number_at w32 bytes) a.value a.first in
    let version = field_read a.value.1 (is_count 2) wrong_version (number_at w16 a.value.1) b.value b.first in
    let count = field_read b.value.1 is_few Count (number_at w16 b.value.1) d.value d.first in
    let t0 = (number_read w32 tt bytes a.value are magic.0).0 in
    let are1 = rest_bytes (to_be_bytes w32 a.value.0) a.value.1 t0 are in
    let t1 = (number_read w16 tt a.value.1 b.value are1 version.0).0 in
    let t2 = (number_read w16 tt b.value.1 d.value (rest_bytes (to_be_bytes w16 b.value.0) b.value.1 t1 are1) count.0).0 in
    let range = between 1 2 b.value.0 version.1 in
    let counted = to_be_bytes w16 d.value.0 in
    let numbered = subst (λ (v : ℕ). Took a.value.1 (to_be_bytes w16 v ++ counted) d.value.1) (version_again b.value.0 range.0 range.1) (took_both (to_be_bytes w16 b.value.0) counted d.value.1 t1 t2) in
    let all = took_both (to_be_bytes w32 a.value.0) (to_be_bytes w16 (version_number (version_of b.value.0)) ++ counted) d.value.1 t0 numbered in
    let whole = subst (λ (m : ℕ). Took bytes (to_be_bytes w32 m ++ (to_be_bytes w16 (version_number (version_of b.value.0)) ++ counted)) d.value.1) (eqb-true _ _ magic.1) all in
    IfOk-at_ok (λ y. Took bytes (head_text y.0.0 y.0.1) y.1 × (y.0.1 ≤ 64)) {r = Ok (made b.value.0 d.value)} d.second (whole, at_most d.value.0 64 count.1)

pub head_again : (version : Version) (count : ℕ) (rest : List ℕ) → count ≤ 64 → head_at (head_text version count ++ rest) ≡ Ok ((version, count), rest)
unfolding head_at head_text
head_again version count rest few =
    let number = version_number version in
    let counted = to_be_bytes w16 count ++ rest in
    let versioned = to_be_bytes w16 number ++ counted in
    let regrouped : head_text version count ++ rest ≡ to_be_bytes w32 0x4C504C46 ++ versioned =
    append_assoc (to_be_bytes w32 0x4C504C46) (to_be_bytes w16 number ++ to_be_bytes w16 count) rest ∙ ap (λ (t : List ℕ). to_be_bytes w32 0x4C504C46 ++ t) (append_assoc (to_be_bytes w16 number) (to_be_bytes w16 count) rest) in
    ap head_at regrouped
    ∙ rw (number_again w32 tt 0x4C504C46 versioned (omega arith), number_again w16 tt number counted (version_small version), version_passes version, number_again w16 tt count rest (omega (arith, few)), below_from count 64 few, version_known version) refl
