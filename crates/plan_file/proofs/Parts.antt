-- The parts of a plan file: where the reader of a part stops, a field of it is the first bad one.
use Rattle.std.proofs.Common.{◌≡◌, ◌≢◌, ℕ, zero, suc, ◌-◌, ◌*◌, ◌^◌, ◌<◌, ◌≤◌, Bool, true, false, cond, ltb, List, [], ◌∷◌, ◌++◌, length, map, drop, Result, Ok, Err, Ordering, ◌⊎◌, inl, inr, refl, sym, ap, subst, ◌∙◌, append_assoc, arith}
use Rattle.std.specs.List.{AllByRecursion}
use Rattle.std.specs.declared.cmp.Ordering.TheVariants.{Less, Equal, Greater}
use Rattle.std.specs.Ordering.{is_lt}
use Rattle.std.specs.Int.{Width, w16, w32, w64, to_be_bytes}
use Rattle.std.proofs.lemmas.Bool.{eqb-true, ltb-true, ltb-false, lt-ltb, le-ltb}
use Rattle.std.proofs.lemmas.List.{append-nil, drop-append-le, length-append}
use Rattle.std.proofs.lemmas.List.Elements.{All-from_recursion}
use mir.Val.{bits}
use Rattle.lit_base.specs.Flags.{flags_of, fold_of, profile_of}
use Rattle.lit_base.specs.declared.fold.Fold.{Fold}
use Rattle.lit_base.specs.declared.fold.Fold.TheVariants.{No}
use Rattle.lit_base.specs.declared.profile.Profile.{Profile}
use Rattle.lit_base.specs.declared.profile.Profile.TheVariants.{Eight, Sixteen}
use Rattle.lit_base.specs.Literals.{literal_cmp}
use Rattle.lit_base.specs.Profiles.{buckets}
use Rattle.lit_cert.specs.Certificates.{CertificateParts}
use Rattle.plan_file.specs.declared.fault.Cause.{Cause}
use Rattle.plan_file.specs.declared.fault.Cause.TheVariants.{Short, Magic, Version as wrong_version, Count, Flags, Literal, Order, Runs}
use Rattle.plan_file.specs.declared.fault.Wrong.{Wrong}
use Rattle.plan_file.specs.declared.version.Version.{Version}
use Rattle.plan_file.specs.declared.version.Version.TheVariants.{One, Two}
use Rattle.plan_file.specs.FirstBad.{Field, FitsCertificate, FitsHead, FitsLiteral, FitsStart, IsFirstBad, Start, byte_field, certificate_fields, head_fields, literal_fields, number_field, start_fields, text_of}
use Rattle.plan_file.specs.FirstFaults.{IsFull, IsWrongLiteral}
use Rattle.plan_file.specs.Reading.{◌>>=◌, wrong_at, byte_at, bytes_at, number_at, field, folded_len, literal_at, numbers_at, certificate_at, last_flags, version_of, head_at}
use Rattle.plan_file.specs.Spelling.{CanExpress, limit_of, literal_text, numbers_text, version_number}
use Rattle.plan_file.proofs.FieldLemmas.{AreBytes, IsFieldWidth, NumbersStop, Took, byte_read, byte_stop, bytes_read, bytes_stop, failed, field_read, field_stop, none_stopped, number_len, number_read, number_rest, number_stop, numbers_read, numbers_stop, rest_bytes, same_number, stop, took_both}
use Rattle.plan_file.proofs.LiteralLemmas.{folded_whole, in_range, in_range_from, in_range_bounds}
use Rattle.plan_file.proofs.PartLemmas.{SameShape, Steady, heads_same, other_bad, same_prefix, short_bad, steady_by_first, tails_same, text_of-append}
use Rattle.plan_file.proofs.PlanLemmas.{below_from, between, between_from, flags_again, flags_can, flags_pass, is_count, is_few, is_flag, is_number, last_few, limit_few, version_again, version_passes, version_small}

-- ---- the kinds of their fields

pub head_steady : Steady FitsHead head_fields
head_steady u v before us vs fu fv eu ev =
    steady_by_first before us vs _ _ _ _ (record { first = record { len = refl; cause = refl }; others = λ same. (record { len = refl; cause = refl }, (record { len = refl; cause = refl }, tt)) }) eu ev

pub start_steady : (version : Version) → Steady (FitsStart version) start_fields
start_steady version u v before us vs fu fv eu ev =
    steady_by_first before us vs _ _ _ _ (record { first = record { len = refl; cause = refl }; others = λ same. (record { len = refl; cause = refl }, tt) }) eu ev

pub literal_steady : (room : ℕ) → Steady (FitsLiteral room) literal_fields
literal_steady room u v before us vs fu fv eu ev =
    steady_by_first before us vs _ _ _ _ (record { first = record { len = refl; cause = refl }; others = λ same. (record { len = same_number w16 tt (length u) (length v) (omega (arith, fu.short)) (omega (arith, fv.short)) same; cause = refl }, tt) }) eu ev

-- as many numbers have one shape
numbers_shape : (w : Width) → IsFieldWidth w → (cause : Cause) (ns ms : List ℕ) (us vs : List Field) → length ns ≡ length ms → SameShape us vs → SameShape (map (number_field w cause) ns ++ us) (map (number_field w cause) ms ++ vs)
numbers_shape w width cause [] [] us vs len same = same
numbers_shape w width cause [] (m ∷ ms) us vs len same = absurd (omega (arith, len))
numbers_shape w width cause (n ∷ ns) [] us vs len same = absurd (omega (arith, len))
numbers_shape w width cause (n ∷ ns) (m ∷ ms) us vs len same = (record { len = number_len w width n ∙ sym (number_len w width m); cause = refl }, numbers_shape w width cause ns ms us vs (omega (arith, len)) same)

pub certificate_steady : (profile : Profile) (n : ℕ) → Steady (FitsCertificate profile n) certificate_fields
certificate_steady profile n u v before us vs fu fv eu ev =
    steady_by_first before us vs _ _ _ _ (record {
      first = record { len = refl; cause = refl };
      others = λ same. numbers_shape w16 tt Short u.ends v.ends (number_field w64 Short u.cost ∷ map (number_field w64 Short) u.potentials) (number_field w64 Short v.cost ∷ map (number_field w64 Short) v.potentials) (heads_same same)
          (record { len = refl; cause = refl }, potentials);
    }) eu ev
  where
    potentials : SameShape (map (number_field w64 Short) u.potentials) (map (number_field w64 Short) v.potentials)
    potentials =
        let all = numbers_shape w64 tt Short u.potentials v.potentials [] [] (fu.potentials ∙ sym fv.potentials) tt in
        let left = subst (λ (xs : List Field). SameShape xs (map (number_field w64 Short) v.potentials ++ [])) (append-nil (map (number_field w64 Short) u.potentials)) all in
        subst (λ (xs : List Field). SameShape (map (number_field w64 Short) u.potentials) xs) (append-nil (map (number_field w64 Short) v.potentials)) left

-- ---- a tested field

-- the field is the spelling of a number that passes
pub record Passes (w : Width) (passes : ℕ → Bool) (next : Field) : Type 0 where
  pub number : ℕ
  pub bytes_are : next.bytes ≡ to_be_bytes w number
  pub small : number < 2 ^ bits w
  pub pass : passes number ≡ true

not_both : {b : Bool} → b ≡ true → b ≡ false → ⊥
not_both is not_is = absurd cc

-- a number that is not read is the first bad field
pub number_bad : {Part : Type 0} (fits : Part → Type 0) (fields_of : Part → List Field) → Steady fits fields_of → (u : Part) → fits u → (before : List Field) (w : Width) → IsFieldWidth w → (passes : ℕ → Bool) (cause : Cause) (m : ℕ) (after : List Field) (bytes rest : List ℕ) (e : Wrong)
    → fields_of u ≡ before ++ number_field w cause m ∷ after → bytes ≡ text_of before ++ rest → AreBytes rest
    → ((other : Part) (next : Field) (later : List Field) → fits other → fields_of other ≡ before ++ next ∷ later → Passes w passes next)
    → field rest passes cause (number_at w rest) ≡ Err e → IsFirstBad fits fields_of bytes e
number_bad {Part} fits fields_of steady u fu before w width passes cause m after bytes rest e eu eb are only is =
    elim (field_stop rest passes cause (number_at w rest) e is) [
      | inl f ↦
          let s = number_stop w rest e f in
          subst (IsFirstBad fits fields_of bytes) (sym s.1) (short_bad fits fields_of steady u fu before (number_field w cause m) after bytes rest eu eb (omega (arith, s.0, number_len w width m)))
      | inr p ↦
          let read = number_read w width rest p.0 are p.1 in
          subst (IsFirstBad fits fields_of bytes) (sym p.3) (other_bad fits fields_of u fu before (number_field w cause m) after bytes rest eu eb (whole p.0 read.0) (stands p.0 read.0 read.1 p.2))
    ]
  where
    whole : (x : ℕ × List ℕ) → Took rest (to_be_bytes w x.0) x.1 → length (to_be_bytes w m) ≤ length rest
    whole x took = omega (arith, number_len w width m, number_len w width x.0, ap length took, length-append (to_be_bytes w x.0) x.1)

    stands : (x : ℕ × List ℕ) → Took rest (to_be_bytes w x.0) x.1 → x.0 < 2 ^ bits w → passes x.0 ≡ false → (other : Part) (next : Field) (later : List Field) (more : List ℕ) → fits other → fields_of other ≡ before ++ next ∷ later → rest ≢ next.bytes ++ more
    stands x took small fails other next later more fo eo is =
        let p = only other next later fo eo in
        let len : length (to_be_bytes w x.0) ≡ length (to_be_bytes w p.number) = number_len w width x.0 ∙ sym (number_len w width p.number) in
        let text : to_be_bytes w x.0 ++ x.1 ≡ to_be_bytes w p.number ++ more = sym took ∙ is ∙ ap (λ (t : List ℕ). t ++ more) p.bytes_are in
        let same : x.0 ≡ p.number = same_number w width x.0 p.number small p.small (same_prefix (to_be_bytes w x.0) (to_be_bytes w p.number) x.1 more len text) in
        not_both (ap passes same ∙ p.pass) fails

-- the field is a byte that passes
pub record PassesByte (passes : ℕ → Bool) (next : Field) : Type 0 where
  pub byte : ℕ
  pub bytes_are : next.bytes ≡ byte ∷ []
  pub pass : passes byte ≡ true

-- a byte that is not read is the first bad field
pub byte_bad : {Part : Type 0} (fits : Part → Type 0) (fields_of : Part → List Field) → Steady fits fields_of → (u : Part) → fits u → (before : List Field) (passes : ℕ → Bool) (cause : Cause) (m : ℕ) (after : List Field) (bytes rest : List ℕ) (e : Wrong)
    → fields_of u ≡ before ++ byte_field cause m ∷ after → bytes ≡ text_of before ++ rest
    → ((other : Part) (next : Field) (later : List Field) → fits other → fields_of other ≡ before ++ next ∷ later → PassesByte passes next)
    → field rest passes cause (byte_at rest) ≡ Err e → IsFirstBad fits fields_of bytes e
byte_bad {Part} fits fields_of steady u fu before passes cause m after bytes rest e eu eb only is =
    elim (field_stop rest passes cause (byte_at rest) e is) [
      | inl f ↦
          let s = byte_stop rest e f in
          subst (IsFirstBad fits fields_of bytes) (sym s.1) (short_bad fits fields_of steady u fu before (byte_field cause m) after bytes rest eu eb s.0)
      | inr p ↦
          let took = byte_read rest p.0 p.1 in
          subst (IsFirstBad fits fields_of bytes) (sym p.3) (other_bad fits fields_of u fu before (byte_field cause m) after bytes rest eu eb (whole p.0 took) (stands p.0 took p.2))
    ]
  where
    whole : (x : ℕ × List ℕ) → Took rest (x.0 ∷ []) x.1 → 1 ≤ length rest
    whole x took = omega (arith, ap length took)

    stands : (x : ℕ × List ℕ) → Took rest (x.0 ∷ []) x.1 → passes x.0 ≡ false → (other : Part) (next : Field) (later : List Field) (more : List ℕ) → fits other → fields_of other ≡ before ++ next ∷ later → rest ≢ next.bytes ++ more
    stands x took fails other next later more fo eo is =
        let p = only other next later fo eo in
        let text : x.0 ∷ x.1 ≡ p.byte ∷ more = sym took ∙ is ∙ ap (λ (t : List ℕ). t ++ more) p.bytes_are in
        not_both (ap passes (heads_same text) ∙ p.pass) fails

-- ---- heads

-- the field of the magic is one that passes
magic_passes : (other : Version × ℕ) (next : Field) (later : List Field) → FitsHead other → head_fields other ≡ next ∷ later → Passes w32 (is_number 0x4C504C46) next
magic_passes other next later fo eo = record {
  number = 0x4C504C46;
  bytes_are = ap (λ (f : Field). f.bytes) (sym (heads_same eo));
  small = omega arith;
  pass = refl;
}

version_is : (before : Field) (other : Version × ℕ) (next : Field) (later : List Field) → FitsHead other → head_fields other ≡ before ∷ next ∷ later → Passes w16 (is_count 2) next
version_is before other next later fo eo = record {
  number = version_number other.0;
  bytes_are = ap (λ (f : Field). f.bytes) (sym (heads_same (tails_same eo)));
  small = version_small other.0;
  pass = version_passes other.0;
}

plans_are : (before second : Field) (other : Version × ℕ) (next : Field) (later : List Field) → FitsHead other → head_fields other ≡ before ∷ second ∷ next ∷ later → Passes w16 is_few next
plans_are before second other next later fo eo = record {
  number = other.1;
  bytes_are = ap (λ (f : Field). f.bytes) (sym (heads_same (tails_same (tails_same eo))));
  small = omega (arith, fo);
  pass = below_from other.1 64 fo;
}

abbrev read_plans : ℕ × List ℕ → Result ((Version × ℕ) × List ℕ) Wrong
read_plans version = field version.1 is_few Count (number_at w16 version.1) >>= λ count. Ok ((version_of version.0, count.0), count.1)

abbrev read_version : ℕ × List ℕ → Result ((Version × ℕ) × List ℕ) Wrong
read_version magic = field magic.1 (is_count 2) wrong_version (number_at w16 magic.1) >>= read_plans

abbrev magic_field : Field
magic_field = number_field w32 Magic 0x4C504C46

-- the number of plans is wrong
plans_bad : (bytes : List ℕ) (version : Version) (rest : List ℕ) (e : Wrong) → bytes ≡ to_be_bytes w32 0x4C504C46 ++ (to_be_bytes w16 (version_number version) ++ rest) → AreBytes rest → read_plans (version_number version, rest) ≡ Err e → IsFirstBad FitsHead head_fields bytes e
plans_bad bytes version rest e took are is =
    elim (stop (field rest is_few Count (number_at w16 rest)) (λ count. Ok ((version_of (version_number version), count.0), count.1)) e is) [
      | inl f ↦ number_bad FitsHead head_fields head_steady (version, 0) (omega arith) (magic_field ∷ number_field w16 wrong_version (version_number version) ∷ []) w16 tt is_few Count 0 [] bytes rest e refl took are (plans_are magic_field (number_field w16 wrong_version (version_number version))) f
      | inr p ↦ absurd (none_stopped p.2)
    ]

-- the version is, or what follows it
version_bad : (bytes rest : List ℕ) (e : Wrong) → bytes ≡ to_be_bytes w32 0x4C504C46 ++ rest → AreBytes rest → read_version (0x4C504C46, rest) ≡ Err e → IsFirstBad FitsHead head_fields bytes e
version_bad bytes rest e took are is =
    elim (stop (field rest (is_count 2) wrong_version (number_at w16 rest)) read_plans e is) [
      | inl f ↦ number_bad FitsHead head_fields head_steady (One, 0) (omega arith) (magic_field ∷ []) w16 tt (is_count 2) wrong_version 1 (number_field w16 Count 0 ∷ []) bytes rest e refl took are (version_is magic_field) f
      | inr p ↦
          let read = field_read rest (is_count 2) wrong_version (number_at w16 rest) p.0 p.1 in
          let number = number_read w16 tt rest p.0 are read.0 in
          let range = between 1 2 p.0.0 read.1 in
          let known : p.0.0 ≡ version_number (version_of p.0.0) = version_again p.0.0 range.0 range.1 in
          let all : rest ≡ to_be_bytes w16 (version_number (version_of p.0.0)) ++ p.0.1 = subst (λ (v : ℕ). rest ≡ to_be_bytes w16 v ++ p.0.1) known number.0 in
          plans_bad bytes (version_of p.0.0) p.0.1 e (took ∙ ap (λ (t : List ℕ). to_be_bytes w32 0x4C504C46 ++ t) all) (rest_bytes (to_be_bytes w16 p.0.0) p.0.1 number.0 are) (subst (λ (v : ℕ). read_plans (v, p.0.1) ≡ Err e) known p.2)
    ]

-- where reading a head stops, a field of it is the first bad one
pub head_bad : (bytes : List ℕ) (e : Wrong) → AreBytes bytes → head_at bytes ≡ Err e → IsFirstBad FitsHead head_fields bytes e
unfolding head_at
head_bad bytes e are is =
    elim (stop (field bytes (is_number 0x4C504C46) Magic (number_at w32 bytes)) read_version e is) [
      | inl f ↦ number_bad FitsHead head_fields head_steady (One, 0) (omega arith) [] w32 tt (is_number 0x4C504C46) Magic 0x4C504C46 (number_field w16 wrong_version 1 ∷ number_field w16 Count 0 ∷ []) bytes bytes e refl refl are magic_passes f
      | inr p ↦
          let read = field_read bytes (is_number 0x4C504C46) Magic (number_at w32 bytes) p.0 p.1 in
          let number = number_read w32 tt bytes p.0 are read.0 in
          let known : p.0.0 ≡ 0x4C504C46 = eqb-true _ _ read.1 in
          version_bad bytes p.0.1 e (subst (λ (m : ℕ). bytes ≡ to_be_bytes w32 m ++ p.0.1) known number.0) (rest_bytes (to_be_bytes w32 p.0.0) p.0.1 number.0 are) (subst (λ (m : ℕ). read_version (m, p.0.1) ≡ Err e) known p.2)
    ]

-- ---- starts

flags_pass_byte : (version : Version) (other : Start) (next : Field) (later : List Field) → FitsStart version other → start_fields other ≡ next ∷ later → PassesByte (is_flag version) next
flags_pass_byte version other next later fo eo = record {
  byte = flags_of other.fold other.profile;
  bytes_are = ap (λ (f : Field). f.bytes) (sym (heads_same eo));
  pass = flags_pass version other.fold other.profile fo.profile;
}

count_passes : (version : Version) (before : Field) (other : Start) (next : Field) (later : List Field) → FitsStart version other → start_fields other ≡ before ∷ next ∷ later → Passes w16 (is_count (limit_of version)) next
count_passes version before other next later fo eo = record {
  number = other.count;
  bytes_are = ap (λ (f : Field). f.bytes) (sym (heads_same (tails_same eo)));
  small = omega (arith, fo.few, limit_few version);
  pass = between_from 1 (limit_of version) other.count fo.some fo.few;
}

pub eight_can : (version : Version) → CanExpress version Eight
eight_can One = refl
eight_can Two = tt

pub some_limit : (version : Version) → 1 ≤ limit_of version
some_limit One = omega arith
some_limit Two = omega arith

-- flags that are not read are the first bad field
pub flags_bad : (version : Version) (bytes : List ℕ) (e : Wrong) → field bytes (is_flag version) Flags (byte_at bytes) ≡ Err e → IsFirstBad (FitsStart version) start_fields bytes e
flags_bad version bytes e is =
    byte_bad (FitsStart version) start_fields (start_steady version) (record { fold = No; profile = Eight; count = 1 }) (record { profile = eight_can version; some = omega arith; few = some_limit version }) [] (is_flag version) Flags 0 (number_field w16 Count 1 ∷ []) bytes bytes e refl refl
    (flags_pass_byte version) is

-- and so is a number of literals
pub count_bad : (version : Version) (flags : ℕ) (bytes rest : List ℕ) (e : Wrong) → flags ≤ last_flags version → bytes ≡ flags ∷ rest → AreBytes rest → field rest (is_count (limit_of version)) Count (number_at w16 rest) ≡ Err e → IsFirstBad (FitsStart version) start_fields bytes e
count_bad version flags bytes rest e known took are is =
    let start : Start = record { fold = fold_of flags; profile = profile_of flags; count = 1 } in
    let again : flags ≡ flags_of start.fold start.profile = flags_again flags (omega (arith, known, last_few version)) in
    number_bad (FitsStart version) start_fields (start_steady version) start (record { profile = flags_can version flags known; some = omega arith; few = some_limit version }) (byte_field Flags (flags_of start.fold start.profile) ∷ []) w16 tt (is_count (limit_of version)) Count 1 [] bytes rest e refl
    (took ∙ ap (λ (b : ℕ). b ∷ rest) again) are (count_passes version (byte_field Flags (flags_of start.fold start.profile))) is

-- ---- literals

length_passes : (room : ℕ) (other : List ℕ) (next : Field) (later : List Field) → FitsLiteral room other → literal_fields other ≡ next ∷ later → Passes w16 (in_range room) next
length_passes room other next later fo eo = record {
  number = length other;
  bytes_are = ap (λ (f : Field). f.bytes) (sym (heads_same eo));
  small = omega (arith, fo.short);
  pass = in_range_from room (length other) fo.some fo.short fo.fits;
}

-- a text of any length
unfoldable pub zeros : ℕ → List ℕ
zeros zero = []
zeros (suc n) = 0 ∷ zeros n

pub length-zeros : (n : ℕ) → length (zeros n) ≡ n
unfolding zeros
length-zeros zero = refl
length-zeros (suc n) = omega (arith, length-zeros n)

-- a length that is not read is the first bad field
length_bad : (room : ℕ) (bytes : List ℕ) (e : Wrong) → 1 ≤ room → AreBytes bytes → field bytes (in_range room) Literal (number_at w16 bytes) ≡ Err e → IsFirstBad (FitsLiteral room) literal_fields bytes e
length_bad room bytes e some are is =
    number_bad (FitsLiteral room) literal_fields (literal_steady room) (0 ∷ []) (record { some = omega arith; short = omega arith; fits = omega (arith, some) }) [] w16 tt (in_range room) Literal 1 (record { bytes = 0 ∷ []; cause = Short } ∷ []) bytes bytes e refl refl are
    (length_passes room) is

-- where there is no room, no length is read
full : (bytes : List ℕ) (e : Wrong) → field bytes (in_range 0) Literal (number_at w16 bytes) ≡ Err e → IsFull 0 bytes e
full bytes e is =
    elim (field_stop bytes (in_range 0) Literal (number_at w16 bytes) e is) [
      | inl f ↦ let s = number_stop w16 bytes e f in (refl, s.1 ∙ ap (λ (b : Bool). wrong_at (cond b Short Literal) bytes) (sym (lt-ltb _ _ s.0)))
      | inr p ↦ (refl, p.3 ∙ ap (λ (b : Bool). wrong_at (cond b Short Literal) bytes) (sym (le-ltb _ _ (omega (arith, number_rest w16 bytes p.0 p.1)))))
    ]

-- a literal that is not whole
text_bad : (room n : ℕ) (bytes rest : List ℕ) (e : Wrong) → in_range room n ≡ true → bytes ≡ to_be_bytes w16 n ++ rest → length rest < n → e ≡ wrong_at Short rest → IsFirstBad (FitsLiteral room) literal_fields bytes e
text_bad room n bytes rest e range took short wrong =
    let r = in_range_bounds room n range in
    let len = length-zeros n in
    let fits : FitsLiteral room (zeros n) = record { some = omega (arith, r.0, len); short = omega (arith, r.1, len); fits = omega (arith, r.2, len) } in
    subst (IsFirstBad (FitsLiteral room) literal_fields bytes) (sym wrong)
    (short_bad (FitsLiteral room) literal_fields (literal_steady room) (zeros n) fits (number_field w16 Literal (length (zeros n)) ∷ []) (record { bytes = zeros n; cause = Short }) [] bytes rest refl
    (took ∙ ap (λ (k : ℕ). to_be_bytes w16 k ++ rest) (sym len)) (omega (arith, len, short)))

-- a reader that stops where a test holds stopped: the test held, or what follows stopped
test_stop : {A : Type 0} (t : Bool) (wrong e : Wrong) (next : Result A Wrong) → cond t (Err wrong) next ≡ Err e → ((t ≡ true) × (e ≡ wrong)) ⊎ ((t ≡ false) × (next ≡ Err e))
test_stop true wrong e next is = inl (refl, cc)
test_stop false wrong e next is = inr (refl, is)

less_not : (o : Ordering) → is_lt o ≡ false → o ≢ Less
less_not Less e is = absurd cc
less_not Equal e is = absurd cc
less_not Greater e is = absurd cc

-- the tests of a literal that is whole
abbrev tested : Fold → List ℕ → List ℕ → List ℕ → List ℕ × List ℕ → Result (List ℕ × List ℕ) Wrong
tested fold before bytes rest text =
    cond (ltb (folded_len fold text.0) (length text.0)) (Err (wrong_at Literal (drop (folded_len fold text.0) rest)))
    (cond (is_lt (literal_cmp before text.0)) (Ok text) (Err (wrong_at Order bytes)))

-- one of them fails
test_bad : (fold : Fold) (room : ℕ) (before bytes rest text after : List ℕ) (e : Wrong) → FitsLiteral room text → bytes ≡ literal_text text ++ after → rest ≡ text ++ after → tested fold before bytes rest (text, after) ≡ Err e → IsWrongLiteral fold room before bytes e
test_bad fold room before bytes rest text after e fits whole at is =
    elim (test_stop (ltb (folded_len fold text) (length text)) (wrong_at Literal (drop (folded_len fold text) rest)) e (cond (is_lt (literal_cmp before text)) (Ok (text, after)) (Err (wrong_at Order bytes))) is) [
      | inl f ↦
          let less : folded_len fold text < length text = ltb-true _ _ f.0 in
          let back : drop (folded_len fold text) rest ≡ drop (folded_len fold text) text ++ after = ap (drop (folded_len fold text)) at ∙ drop-append-le (folded_len fold text) text after (omega (arith, less)) in
          inr (inr (inl (record { text = text; rest = after; fits = fits; bytes_are = whole; unfolded = less; wrong_is = f.1 ∙ ap (wrong_at Literal) back })))
      | inr f ↦
          let order = failed (is_lt (literal_cmp before text)) (text, after) (wrong_at Order bytes) e f.1 in
          inr (inr (inr (record { text = text; rest = after; fits = fits; bytes_are = whole; folded = folded_whole fold text (ltb-false _ _ f.0); not_after = less_not (literal_cmp before text) order.0; wrong_is = order.1 })))
    ]

-- the length is wrong
length_wrong : (fold : Fold) (room : ℕ) (before bytes : List ℕ) (e : Wrong) → AreBytes bytes → field bytes (in_range room) Literal (number_at w16 bytes) ≡ Err e → IsWrongLiteral fold room before bytes e
length_wrong fold zero before bytes e are f = inr (inl (full bytes e f))
length_wrong fold (suc room) before bytes e are f = inl (length_bad (suc room) bytes e (omega arith) are f)

-- where reading a literal stops, it is wrong
pub literal_bad : (fold : Fold) (room : ℕ) (before bytes : List ℕ) (e : Wrong) → AreBytes bytes → literal_at fold room before bytes ≡ Err e → IsWrongLiteral fold room before bytes e
unfolding literal_at
literal_bad fold room before bytes e are is =
    elim (stop (field bytes (in_range room) Literal (number_at w16 bytes)) (λ len. bytes_at len.0 len.1 >>= tested fold before bytes len.1) e is) [
      | inl f ↦ length_wrong fold room before bytes e are f
      | inr p ↦
          let read = field_read bytes (in_range room) Literal (number_at w16 bytes) p.0 p.1 in
          let number = number_read w16 tt bytes p.0 are read.0 in
          elim (stop (bytes_at p.0.0 p.0.1) (tested fold before bytes p.0.1) e p.2) [
            | inl f ↦ let s = bytes_stop p.0.0 p.0.1 e f in inl (text_bad room p.0.0 bytes p.0.1 e read.1 number.0 s.0 s.1)
            | inr q ↦
                let text = bytes_read p.0.0 p.0.1 q.0 q.1 in
                let range = in_range_bounds room p.0.0 read.1 in
                let fits : FitsLiteral room q.0.0 = record { some = omega (arith, text.1, range.0); short = omega (arith, text.1, range.1); fits = omega (arith, text.1, range.2) } in
                let whole = subst (λ (k : ℕ). Took bytes (to_be_bytes w16 k ++ q.0.0) q.0.1) (sym text.1) (took_both (to_be_bytes w16 p.0.0) q.0.0 q.0.1 number.0 text.0) in
                test_bad fold room before bytes p.0.1 q.0.0 q.0.1 e fits whole text.0 q.2
          ]
    ]

-- ---- certificates

pub numbers_text_of : (w : Width) (cause : Cause) (ns : List ℕ) → text_of (map (number_field w cause) ns) ≡ numbers_text w ns
numbers_text_of w cause [] = refl
numbers_text_of w cause (n ∷ ns) = ap (λ (t : List ℕ). to_be_bytes w n ++ t) (numbers_text_of w cause ns)

map-append : (f : ℕ → Field) (xs ys : List ℕ) → map f (xs ++ ys) ≡ map f xs ++ map f ys
map-append f [] ys = refl
map-append f (x ∷ xs) ys = ap (λ (t : List Field). f x ∷ t) (map-append f xs ys)

pub all_zeros : (limit n : ℕ) → 0 < limit → AllByRecursion (λ m. m < limit) (zeros n)
unfolding zeros
all_zeros limit zero some = tt
all_zeros limit (suc n) some = (some, all_zeros limit n some)

all_append : (P : ℕ → Type 0) (xs ys : List ℕ) → AllByRecursion P xs → AllByRecursion P ys → AllByRecursion P (xs ++ ys)
all_append P [] ys xs_are ys_are = ys_are
all_append P (x ∷ xs) ys xs_are ys_are = (xs_are.0, all_append P xs ys xs_are.1 ys_are)

runs_pass : (profile : Profile) (n : ℕ) (other : CertificateParts) (next : Field) (later : List Field) → FitsCertificate profile n other → certificate_fields other ≡ next ∷ later → PassesByte (is_count (buckets profile)) next
runs_pass profile n other next later fo eo = record {
  byte = length other.ends;
  bytes_are = ap (λ (f : Field). f.bytes) (sym (heads_same eo));
  pass = between_from 1 (buckets profile) (length other.ends) fo.some_ends fo.few_ends;
}

pub some_buckets : (profile : Profile) → 1 ≤ buckets profile
some_buckets Eight = omega arith
some_buckets Sixteen = omega arith

-- a certificate of these numbers
abbrev made : Profile → List ℕ → ℕ → List ℕ → CertificateParts
made profile ends cost potentials = record { profile = profile; ends = ends; cost = cost; potentials = potentials }

fits_made : (profile : Profile) (n : ℕ) (ends : List ℕ) (cost : ℕ) (potentials : List ℕ) → 1 ≤ length ends → length ends ≤ buckets profile → AllByRecursion (λ e. e < 2 ^ 16) ends → cost < 2 ^ 64 → length potentials ≡ buckets profile * n → AllByRecursion (λ h. h < 2 ^ 64) potentials
    → FitsCertificate profile n (made profile ends cost potentials)
fits_made profile n ends cost potentials some few small_ends small_cost len small = record {
  profile_is = refl;
  some_ends = some;
  few_ends = few;
  small_ends = All-from_recursion (λ e. e < 2 ^ 16) ends small_ends;
  small_cost = small_cost;
  potentials = len;
  small_potentials = All-from_recursion (λ h. h < 2 ^ 64) potentials small;
}

abbrev end_fields : List ℕ → List Field
end_fields ns = map (number_field w16 Short) ns

abbrev potential_fields : List ℕ → List Field
potential_fields ns = map (number_field w64 Short) ns

-- the number of runs is wrong
runs_bad : (profile : Profile) (n : ℕ) (bytes : List ℕ) (e : Wrong) → field bytes (is_count (buckets profile)) Runs (byte_at bytes) ≡ Err e → IsFirstBad (FitsCertificate profile n) certificate_fields bytes e
runs_bad profile n bytes e is =
    let hs = zeros (buckets profile * n) in
    byte_bad (FitsCertificate profile n) certificate_fields (certificate_steady profile n) (made profile (0 ∷ []) 0 hs)
    (fits_made profile n (0 ∷ []) 0 hs (omega arith) (some_buckets profile) (omega arith, tt) (omega arith) (length-zeros (buckets profile * n)) (all_zeros (2 ^ 64) (buckets profile * n) (omega arith)))
    [] (is_count (buckets profile)) Runs 1 (end_fields (0 ∷ []) ++ number_field w64 Short 0 ∷ potential_fields hs) bytes bytes e refl refl (runs_pass profile n) is

-- an end is not whole
ends_bad : (profile : Profile) (n runs : ℕ) (bytes rest : List ℕ) (e : Wrong) → 1 ≤ runs → runs ≤ buckets profile → bytes ≡ runs ∷ rest → NumbersStop w16 runs rest e → IsFirstBad (FitsCertificate profile n) certificate_fields bytes e
ends_bad profile n runs bytes rest e some few took s =
    let k = runs - length s.numbers - 1 in
    let ends = s.numbers ++ 0 ∷ zeros k in
    let len : length ends ≡ runs = omega (arith, length-append s.numbers (0 ∷ zeros k), length-zeros k, s.fewer) in
    let hs = zeros (buckets profile * n) in
    let fits = fits_made profile n ends 0 hs (omega (arith, len, some)) (omega (arith, len, few)) (all_append (λ m. m < 2 ^ 16) s.numbers (0 ∷ zeros k) s.small (omega arith, all_zeros (2 ^ 16) k (omega arith))) (omega arith) (length-zeros (buckets profile * n))
    (all_zeros (2 ^ 64) (buckets profile * n) (omega arith)) in
    let before = byte_field Runs (length ends) ∷ end_fields s.numbers in
    let after = end_fields (zeros k) ++ number_field w64 Short 0 ∷ potential_fields hs in
    let fields : certificate_fields (made profile ends 0 hs) ≡ before ++ number_field w16 Short 0 ∷ after =
    ap (λ (t : List Field). byte_field Runs (length ends) ∷ t) (ap (λ (t : List Field). t ++ number_field w64 Short 0 ∷ potential_fields hs) (map-append (number_field w16 Short) s.numbers (0 ∷ zeros k)) ∙ append_assoc (end_fields s.numbers) (number_field w16 Short 0 ∷ end_fields (zeros k)) (number_field w64 Short 0 ∷ potential_fields hs)) in
    let all : bytes ≡ text_of before ++ s.rest = took ∙ ap (λ (r : ℕ). r ∷ rest) (sym len) ∙ ap (λ (t : List ℕ). length ends ∷ t) (s.took ∙ ap (λ (t : List ℕ). t ++ s.rest) (sym (numbers_text_of w16 Short s.numbers))) in
    subst (IsFirstBad (FitsCertificate profile n) certificate_fields bytes) (sym s.wrong)
    (short_bad (FitsCertificate profile n) certificate_fields (certificate_steady profile n) (made profile ends 0 hs) fits before (number_field w16 Short 0) after bytes s.rest fields all s.short)

-- the cost is not whole
cost_bad : (profile : Profile) (n : ℕ) (ends bytes rest : List ℕ) (e : Wrong) → 1 ≤ length ends → length ends ≤ buckets profile → AllByRecursion (λ m. m < 2 ^ 16) ends → bytes ≡ length ends ∷ (numbers_text w16 ends ++ rest) → length rest < 8 → e ≡ wrong_at Short rest
    → IsFirstBad (FitsCertificate profile n) certificate_fields bytes e
cost_bad profile n ends bytes rest e some few small took short wrong =
    let hs = zeros (buckets profile * n) in
    let fits = fits_made profile n ends 0 hs some few small (omega arith) (length-zeros (buckets profile * n)) (all_zeros (2 ^ 64) (buckets profile * n) (omega arith)) in
    let before = byte_field Runs (length ends) ∷ end_fields ends in
    let all : bytes ≡ text_of before ++ rest = took ∙ ap (λ (t : List ℕ). length ends ∷ (t ++ rest)) (sym (numbers_text_of w16 Short ends)) in
    subst (IsFirstBad (FitsCertificate profile n) certificate_fields bytes) (sym wrong)
    (short_bad (FitsCertificate profile n) certificate_fields (certificate_steady profile n) (made profile ends 0 hs) fits before (number_field w64 Short 0) (potential_fields hs) bytes rest refl all short)

-- a potential is not whole
potentials_bad : (profile : Profile) (n : ℕ) (ends : List ℕ) (cost : ℕ) (bytes rest : List ℕ) (e : Wrong) → 1 ≤ length ends → length ends ≤ buckets profile → AllByRecursion (λ m. m < 2 ^ 16) ends → cost < 2 ^ 64 → bytes ≡ length ends ∷ (numbers_text w16 ends ++ (to_be_bytes w64 cost ++ rest))
    → NumbersStop w64 (buckets profile * n) rest e → IsFirstBad (FitsCertificate profile n) certificate_fields bytes e
potentials_bad profile n ends cost bytes rest e some few small small_cost took s =
    let k = buckets profile * n - length s.numbers - 1 in
    let hs = s.numbers ++ 0 ∷ zeros k in
    let len : length hs ≡ buckets profile * n = omega (arith, length-append s.numbers (0 ∷ zeros k), length-zeros k, s.fewer) in
    let fits = fits_made profile n ends cost hs some few small small_cost len (all_append (λ m. m < 2 ^ 64) s.numbers (0 ∷ zeros k) s.small (omega arith, all_zeros (2 ^ 64) k (omega arith))) in
    let head = byte_field Runs (length ends) ∷ end_fields ends in
    let middle = number_field w64 Short cost ∷ potential_fields s.numbers in
    let after = potential_fields (zeros k) in
    let fields : certificate_fields (made profile ends cost hs) ≡ (head ++ middle) ++ number_field w64 Short 0 ∷ after =
    ap (λ (t : List Field). head ++ number_field w64 Short cost ∷ t) (map-append (number_field w64 Short) s.numbers (0 ∷ zeros k)) ∙ sym (append_assoc head middle (number_field w64 Short 0 ∷ after)) in
    let prefix : text_of (head ++ middle) ≡ length ends ∷ (numbers_text w16 ends ++ (to_be_bytes w64 cost ++ numbers_text w64 s.numbers)) =
    text_of-append head middle ∙ ap (λ (t : List ℕ). length ends ∷ (t ++ text_of middle)) (numbers_text_of w16 Short ends) ∙ ap (λ (t : List ℕ). length ends ∷ (numbers_text w16 ends ++ (to_be_bytes w64 cost ++ t))) (numbers_text_of w64 Short s.numbers) in
    let all : bytes ≡ text_of (head ++ middle) ++ s.rest =
    took ∙ ap (λ (t : List ℕ). length ends ∷ (numbers_text w16 ends ++ (to_be_bytes w64 cost ++ t))) s.took
    ∙ ap (λ (t : List ℕ). length ends ∷ (numbers_text w16 ends ++ t)) (sym (append_assoc (to_be_bytes w64 cost) (numbers_text w64 s.numbers) s.rest))
    ∙ ap (λ (t : List ℕ). length ends ∷ t) (sym (append_assoc (numbers_text w16 ends) (to_be_bytes w64 cost ++ numbers_text w64 s.numbers) s.rest))
    ∙ ap (λ (t : List ℕ). t ++ s.rest) (sym prefix) in
    subst (IsFirstBad (FitsCertificate profile n) certificate_fields bytes) (sym s.wrong)
    (short_bad (FitsCertificate profile n) certificate_fields (certificate_steady profile n) (made profile ends cost hs) fits (head ++ middle) (number_field w64 Short 0) after bytes s.rest fields all s.short)

-- where reading a certificate stops, a field of it is the first bad one
pub certificate_bad : (profile : Profile) (n : ℕ) (bytes : List ℕ) (e : Wrong) → AreBytes bytes → certificate_at profile n bytes ≡ Err e → IsFirstBad (FitsCertificate profile n) certificate_fields bytes e
unfolding certificate_at
certificate_bad profile n bytes e are is =
    let most = buckets profile in
    let whole : List ℕ → ℕ → List ℕ × List ℕ → Result (CertificateParts × List ℕ) Wrong = λ ends cost hs. Ok (made profile ends cost hs.0, hs.1) in
    let third : List ℕ → ℕ × List ℕ → Result (CertificateParts × List ℕ) Wrong = λ ends cost. numbers_at w64 (most * n) cost.1 >>= whole ends cost.0 in
    let second : List ℕ × List ℕ → Result (CertificateParts × List ℕ) Wrong = λ ends. number_at w64 ends.1 >>= third ends.0 in
    elim (stop (field bytes (is_count most) Runs (byte_at bytes)) (λ runs. numbers_at w16 runs.0 runs.1 >>= second) e is) [
      | inl f ↦ runs_bad profile n bytes e f
      | inr p ↦
          let read = field_read bytes (is_count most) Runs (byte_at bytes) p.0 p.1 in
          let range = between 1 most p.0.0 read.1 in
          let took = byte_read bytes p.0 read.0 in
          let are1 = rest_bytes (p.0.0 ∷ []) p.0.1 took are in
          elim (stop (numbers_at w16 p.0.0 p.0.1) second e p.2) [
            | inl f ↦ ends_bad profile n p.0.0 bytes p.0.1 e range.0 range.1 took (numbers_stop w16 tt p.0.0 p.0.1 e are1 f)
            | inr q ↦
                let ends = numbers_read w16 tt p.0.0 p.0.1 q.0 are1 q.1 in
                let are2 = rest_bytes (numbers_text w16 q.0.0) q.0.1 ends.0 are1 in
                let some : 1 ≤ length q.0.0 = omega (arith, ends.1, range.0) in
                let few : length q.0.0 ≤ most = omega (arith, ends.1, range.1) in
                let runs : bytes ≡ length q.0.0 ∷ (numbers_text w16 q.0.0 ++ q.0.1) = took ∙ ap (λ (r : ℕ). r ∷ p.0.1) (sym ends.1) ∙ ap (λ (t : List ℕ). length q.0.0 ∷ t) ends.0 in
                elim (stop (number_at w64 q.0.1) (third q.0.0) e q.2) [
                  | inl f ↦ let s = number_stop w64 q.0.1 e f in cost_bad profile n q.0.0 bytes q.0.1 e some few ends.2 runs s.0 s.1
                  | inr r ↦
                      let cost = number_read w64 tt q.0.1 r.0 are2 r.1 in
                      elim (stop (numbers_at w64 (most * n) r.0.1) (whole q.0.0 r.0.0) e r.2) [
                        | inl f ↦ potentials_bad profile n q.0.0 r.0.0 bytes r.0.1 e some few ends.2 cost.1 (runs ∙ ap (λ (t : List ℕ). length q.0.0 ∷ (numbers_text w16 q.0.0 ++ t)) cost.0) (numbers_stop w64 tt (most * n) r.0.1 e (rest_bytes (to_be_bytes w64 r.0.0) r.0.1 cost.0 are2) f)
                        | inr s ↦ absurd (none_stopped s.2)
                      ]
                ]
          ]
    ]
