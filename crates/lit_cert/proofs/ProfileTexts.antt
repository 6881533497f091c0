-- Texts of either profile: the first line says which, and the first bad line after it is the same as for texts of this
-- profile.
use Rattle.std.proofs.Common.{◌≡◌, ◌≢◌, ℕ, ◌+◌, ◌-◌, ◌≤◌, List, [], ◌∷◌, ◌++◌, length, get_or, codes, refl, sym, ap, subst, ◌∙◌, append_assoc, inl, inr, ◌*◌, arith}
use Rattle.std.proofs.lemmas.Bool.{cases_order}
use Rattle.std.specs.List.{flat_map}
use Rattle.std.proofs.lemmas.Fmt.{decimal_digit}
use Rattle.std.proofs.lemmas.List.{append-nil}
use Rattle.lit_base.specs.Profiles.{buckets}
use Rattle.lit_base.specs.declared.profile.Profile.{Profile}
use Rattle.lit_base.specs.declared.profile.Profile.TheVariants.{Eight, Sixteen}
use Rattle.lit_cert.specs.declared.fault.Fault.{Fault}
use Rattle.lit_cert.specs.declared.fault.Fault.TheVariants.{OutOfMemory, BadCertText, ReadFault, WriteFault}
use Rattle.lit_cert.specs.Certificates.{CertificateNumbers, CertificateParts, numbers_of}
use Rattle.lit_cert.specs.Spelling.{HasText, HasTextFor, line_text, literals_words, ends_words, cost_words, spelling, spelling_for, version_words}
use Rattle.lit_cert.specs.Reading.{IsBadRow, IsBadText, IsFirstBad, IsFirstBadFor, IsRightFor, IsRightTo, StartsWithHead}
use Rattle.lit_cert.proofs.Plain.{is_most}
use Rattle.lit_cert.proofs.Exits.{bad_first, bad_row}
use Rattle.lit_cert.proofs.OneWay.{fewer_lines, one_certificate, right_lines}
use Rattle.lit_cert.proofs.TooLong.{IsLong, right_after, right_in_prefix}
use Rattle.lit_cert.proofs.Lengths.{length-spelling_for-le}

-- the first line of a profile's texts
abbrev pub first_line_of : Profile → List ℕ
first_line_of profile = line_text (version_words (buckets profile))

-- as it is written
pub first_of_eight : first_line_of Eight ≡ codes "litcert 1" ++ 10 ∷ []
first_of_eight = ap (λ (d : List ℕ). line_text (codes "litcert" ∷ d ∷ [])) (decimal_digit 1 (omega arith))

pub first_of_sixteen : first_line_of Sixteen ≡ codes "litcert 2" ++ 10 ∷ []
first_of_sixteen = ap (λ (d : List ℕ). line_text (codes "litcert" ∷ d ∷ [])) (decimal_digit 2 (omega arith))

-- the ninth byte says the version
one : (x : List ℕ) → get_or (first_line_of Eight ++ x) 8 0 ≡ 49
one x = ap (λ (t : List ℕ). get_or (t ++ x) 8 0) first_of_eight

two : (x : List ℕ) → get_or (first_line_of Sixteen ++ x) 8 0 ≡ 50
two x = ap (λ (t : List ℕ). get_or (t ++ x) 8 0) first_of_sixteen

-- texts that begin with first lines have one profile
pub same_profile : (p q : Profile) (x y : List ℕ) → first_line_of p ++ x ≡ first_line_of q ++ y → p ≡ q
same_profile Eight Eight x y e = refl
same_profile Eight Sixteen x y e = absurd (omega (arith, one x, two y, ap (λ (t : List ℕ). get_or t 8 0) e))
same_profile Sixteen Eight x y e = absurd (omega (arith, two x, one y, ap (λ (t : List ℕ). get_or t 8 0) e))
same_profile Sixteen Sixteen x y e = refl

-- where some lines are right, the first is
begins : (p : Profile) (text : List ℕ) (k : ℕ) → 1 ≤ k → IsRightFor (buckets p) text k → (rest : List ℕ) × (text ≡ first_line_of p ++ rest)
begins p text k some right =
    let one = (fewer_lines (buckets p) 1 k text some right).1 in
    (one.rest, one.lines ∙ ap (λ (t : List ℕ). t ++ one.rest) (append-nil (first_line_of p)))

-- so it says the profile
pub profile_of : (p : Profile) (text rest : List ℕ) (k : ℕ) → 1 ≤ k → text ≡ first_line_of p ++ rest → (right : IsRightTo text k) → IsRightFor (buckets p) text k
profile_of p text rest k some first right =
    let start = begins right.0 text k some right.1 in
    subst (λ q. IsRightFor (buckets q) text k) (same_profile right.0 p start.0 rest (sym start.1 ∙ first)) right.1

-- the first bad line after a profile's first line
pub bad_after_first : (p : Profile) (text rest : List ℕ) (k : ℕ) → text ≡ first_line_of p ++ rest → IsFirstBadFor (buckets p) text k → IsFirstBad text k
bad_after_first p text rest k first bad = record {
  from_one = bad.from_one;
  before = (p, bad.before);
  wrong = λ right. bad.wrong (profile_of p text rest k bad.from_one first right);
}

-- the first line is of neither profile
pub bad_first_line : (text : List ℕ) → ((p : Profile) (after : List ℕ) → text ≢ first_line_of p ++ after) → IsFirstBad text 1
bad_first_line text none =
    let bad = bad_first 8 text (is_most Eight) (none Eight) in
    record {
      from_one = bad.from_one;
      before = (Eight, bad.before);
      wrong = λ right. let start = begins right.0 text 1 (omega arith) right.1 in none right.0 start.0 start.1;
    }

-- a text that begins with the lines before the rows begins with the first of them
pub head_begins : (p : Profile) (n cost : ℕ) (ends text rest : List ℕ) → StartsWithHead (buckets p) n cost ends text rest → (after : List ℕ) × (text ≡ first_line_of p ++ after)
head_begins p n cost ends text rest head =
    let others = flat_map line_text (literals_words n ∷ ends_words ends ∷ cost_words cost ∷ []) in
    (others ++ rest, head.lines ∙ append_assoc (first_line_of p) others rest)

-- so the first bad line after them is the text's
pub bad_after_head : (p : Profile) (n cost : ℕ) (ends text rest : List ℕ) (k : ℕ) → StartsWithHead (buckets p) n cost ends text rest → IsFirstBadFor (buckets p) text k → IsFirstBad text k
bad_after_head p n cost ends text rest k head bad =
    let start = head_begins p n cost ends text rest head in
    bad_after_first p text start.0 k start.1 bad

-- a row is wrong, or want of memory
pub bad_rows : (p : Profile) (n cost : ℕ) (ends text rest : List ℕ) (e : Fault) → StartsWithHead (buckets p) n cost ends text rest → IsBadRow (buckets p) n rest e → IsBadText text e
bad_rows p n cost ends text rest OutOfMemory head h = tt
bad_rows p n cost ends text rest (BadCertText k) head h =
    let start = head_begins p n cost ends text rest head in
    rw h.2 (bad_after_first p text start.0 (h.0 + 5) start.1 (bad_row (buckets p) n cost h.0 ends text rest h.3 h.4 (is_most p) head h.1 h.5 h.6))
bad_rows p n cost ends text rest ReadFault head h = h
bad_rows p n cost ends text rest WriteFault head h = h

-- ---- texts as wholes

-- a text begins with its profile's first line
spelling_begins : (c : CertificateParts) → (rest : List ℕ) × (spelling c ≡ first_line_of c.profile ++ rest)
spelling_begins c = (_, refl)

-- two certificates with one text are one
pub one_text : (c d : CertificateParts) → HasText c → HasText d → spelling c ≡ spelling d → c ≡ d
one_text c d has has' e =
    let same : d.profile ≡ c.profile = same_profile d.profile c.profile (spelling_begins d).0 (spelling_begins c).0 (sym (spelling_begins d).1 ∙ (sym e ∙ (spelling_begins c).1)) in
    one_at c d same has has' e
  where
    made : Profile → CertificateNumbers → CertificateParts
    made profile n = record { profile = profile; ends = n.ends; cost = n.cost; potentials = n.potentials }

    one_at : (c d : CertificateParts) → d.profile ≡ c.profile → HasText c → HasText d → spelling c ≡ spelling d → c ≡ d
    one_at c d same has has' e =
        let numbers : numbers_of c ≡ numbers_of d =
        one_certificate (buckets c.profile) (numbers_of c) (numbers_of d) (is_most c.profile) has (subst (λ q. HasTextFor (buckets q) (numbers_of d)) same has')
        (e ∙ ap (λ q. spelling_for (buckets q) (numbers_of d)) same) in
        (λ i. made (sym same i) (numbers i))

-- two first bad lines are one
pub one_bad : (j k : ℕ) (text : List ℕ) → IsFirstBad text j → IsFirstBad text k → j ≡ k
one_bad j k text a b =
    elim (cases_order j k) [
      | inl same ↦ same
      | inr (inl below) ↦ absurd (a.wrong (b.before.0, fewer_lines (buckets b.before.0) j (k - 1) text (omega arith) b.before.1))
      | inr (inr above) ↦ absurd (b.wrong (a.before.0, fewer_lines (buckets a.before.0) k (j - 1) text (omega arith) a.before.1))
    ]

-- a certificate's text has no bad line
pub text_not_bad : (k : ℕ) (text : List ℕ) (c : CertificateParts) → HasText c → text ≡ spelling c → IsFirstBad text k → ⊥
text_not_bad k text c has e bad = bad.wrong (c.profile, right_lines (buckets c.profile) k text (numbers_of c) has e)

-- lines of the prefix of a text that is too long for either profile are lines of all of it
pub bad_in_prefix : (k : ℕ) (text prefix rest : List ℕ) → IsLong 16 prefix → text ≡ prefix ++ rest → IsFirstBad prefix k → IsFirstBad text k
bad_in_prefix k text prefix rest long e bad =
    let enough : (p : Profile) → IsLong (buckets p) prefix = long_enough prefix long in
    record {
      from_one = bad.from_one;
      before = (bad.before.0, rw e (right_after (buckets bad.before.0) (k - 1) prefix rest (is_most bad.before.0) (enough bad.before.0) bad.before.1));
      wrong = λ right. bad.wrong (right.0, right_in_prefix (buckets right.0) k prefix rest (is_most right.0) (enough right.0) (rw e at right.1));
    }
  where
    long_enough : (prefix : List ℕ) → IsLong 16 prefix → (p : Profile) → IsLong (buckets p) prefix
    long_enough prefix long Eight = omega arith
    long_enough prefix long Sixteen = long

-- no text is longer
pub text-le : (c : CertificateParts) → HasText c → length (spelling c) ≤ 200 + 16 * 86200
text-le c has = by c.profile (numbers_of c) has
  where
    by : (p : Profile) (n : CertificateNumbers) → HasTextFor (buckets p) n → length (spelling_for (buckets p) n) ≤ 200 + 16 * 86200
    by Eight n has = omega (arith, length-spelling_for-le 8 n (is_most Eight) has)
    by Sixteen n has = length-spelling_for-le 16 n (is_most Sixteen) has

-- and a text that long is no certificate's
pub none_of_long : (text : List ℕ) (c : CertificateParts) → IsLong 16 text → HasText c → text ≡ spelling c → ⊥
none_of_long text c long has e = omega (arith, text-le c has, ap length e)
