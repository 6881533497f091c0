-- The first bad field of a part: there is one at most, and none where a whole part stands.
use Rattle.std.proofs.Common.{◌≡◌, ◌≢◌, ℕ, ◌+◌, ◌<◌, ◌≤◌, Bool, cond, ltb, List, [], ◌∷◌, ◌++◌, length, take, drop, inl, inr, ◌⊎◌, refl, sym, ap, subst, ◌∙◌, append_assoc, arith}
use Rattle.std.proofs.lemmas.Bool.{cases_lt, lt-ltb, le-ltb}
use Rattle.std.proofs.lemmas.List.{take_at, drop_at, take-append-le, take-append-drop, append-nil, length-append}
use Rattle.std.proofs.lemmas.List.Concat.{flat_map-append}
use Rattle.plan_file.specs.declared.fault.Cause.{Cause}
use Rattle.plan_file.specs.declared.fault.Cause.TheVariants.{Short}
use Rattle.plan_file.specs.declared.fault.Wrong.{Wrong}
use Rattle.plan_file.specs.FirstBad.{Field, IsFirstBad, text_of}
use Rattle.plan_file.specs.Reading.{wrong_at}

pub heads_same : {A : Type 0} {x y : A} {xs ys : List A} → x ∷ xs ≡ y ∷ ys → x ≡ y
heads_same e = (cc)

pub tails_same : {A : Type 0} {x y : A} {xs ys : List A} → x ∷ xs ≡ y ∷ ys → xs ≡ ys
tails_same e = (cc)

-- as many bytes at the start of one text are the same
pub same_prefix : (xs ys s t : List ℕ) → length xs ≡ length ys → xs ++ s ≡ ys ++ t → xs ≡ ys
same_prefix xs ys s t len e = sym (take_at xs s (length xs) refl) ∙ ap (take (length xs)) e ∙ take_at ys t (length xs) (sym len)

-- and so are the bytes after them
pub same_back : (xs ys s t : List ℕ) → length xs ≡ length ys → xs ++ s ≡ ys ++ t → s ≡ t
same_back xs ys s t len e = sym (drop_at xs s (length xs) refl) ∙ ap (drop (length xs)) e ∙ drop_at ys t (length xs) (sym len)

-- ---- parts whose fields follow from those before them

-- two fields are as long, and have one cause
pub record SameKind (f g : Field) : Type 0 where
  pub len : length f.bytes ≡ length g.bytes
  pub cause : f.cause ≡ g.cause

-- the next of two rows of fields are of a kind, or neither has one
abbrev pub SameNext : List Field → List Field → Type 0
SameNext [] [] = Unit {0}
SameNext [] (g ∷ gs) = ⊥
SameNext (f ∷ fs) [] = ⊥
SameNext (f ∷ fs) (g ∷ gs) = SameKind f g

-- all of them are
abbrev pub SameShape : List Field → List Field → Type 0
SameShape [] [] = Unit {0}
SameShape [] (g ∷ gs) = ⊥
SameShape (f ∷ fs) [] = ⊥
SameShape (f ∷ fs) (g ∷ gs) = SameKind f g × SameShape fs gs

-- after the same fields two parts have a next one of one kind
abbrev pub Steady : {Part : Type 0} → (Part → Type 0) → (Part → List Field) → Type 0
Steady {Part} fits fields_of = (u v : Part) (before us vs : List Field) → fits u → fits v → fields_of u ≡ before ++ us → fields_of v ≡ before ++ vs → SameNext us vs

pub next_same : (before us vs : List Field) → SameShape (before ++ us) (before ++ vs) → SameNext us vs
next_same [] [] [] same = tt
next_same [] [] (v ∷ vs) same = absurd same
next_same [] (u ∷ us) [] same = absurd same
next_same [] (u ∷ us) (v ∷ vs) same = same.0
next_same (b ∷ bs) us vs same = next_same bs us vs same.1

-- the first field has one kind, and the kinds of the others follow from it
pub record SameParts (f : Field) (fs : List Field) (g : Field) (gs : List Field) : Type 0 where
  pub first : SameKind f g
  pub others : f.bytes ≡ g.bytes → SameShape fs gs

pub steady_by_first : (before us vs : List Field) (f g : Field) (fs gs : List Field) → SameParts f fs g gs → f ∷ fs ≡ before ++ us → g ∷ gs ≡ before ++ vs → SameNext us vs
steady_by_first [] [] vs f g fs gs same e d = absurd cc
steady_by_first [] (u ∷ us) [] f g fs gs same e d = absurd cc
steady_by_first [] (u ∷ us) (v ∷ vs) f g fs gs same e d =
    let first : SameKind u g = subst (λ (x : Field). SameKind x g) (heads_same e) same.first in
    subst (λ (x : Field). SameKind u x) (heads_same d) first
steady_by_first (b ∷ bs) us vs f g fs gs same e d =
    let one : f ≡ g = heads_same e ∙ sym (heads_same d) in
    let shape : SameShape fs gs = same.others (ap (λ (x : Field). x.bytes) one) in
    let left : SameShape (bs ++ us) gs = subst (λ (xs : List Field). SameShape xs gs) (tails_same e) shape in
    next_same bs us vs (subst (λ (xs : List Field). SameShape (bs ++ us) xs) (tails_same d) left)

-- ---- two rows of fields at the start of one text

-- one goes on from the other, with fields that stand there
pub record GoesOn (short long : List Field) (rest after : List ℕ) : Type 0 where
  pub next : Field
  pub later : List Field
  pub fields_are : long ≡ short ++ next ∷ later
  pub rest_is : rest ≡ next.bytes ++ (text_of later ++ after)

-- they are the same
pub record AreSame (one other : List Field) (rest after : List ℕ) : Type 0 where
  pub fields : one ≡ other
  pub rests : rest ≡ after

abbrev pub Meet : List Field → List Field → List ℕ → List ℕ → Type 0
Meet one other rest after = GoesOn one other rest after ⊎ GoesOn other one after rest ⊎ AreSame one other rest after

regroup : (f : Field) (fs : List Field) (rest : List ℕ) → text_of (f ∷ fs) ++ rest ≡ f.bytes ++ (text_of fs ++ rest)
regroup f fs rest = append_assoc f.bytes (text_of fs) rest

same_field : (f g : Field) → f.bytes ≡ g.bytes → f.cause ≡ g.cause → f ≡ g
same_field f g b c = ap (λ (x : List ℕ). record { bytes = x; cause = f.cause }) b ∙ ap (λ (x : Cause). record { bytes = g.bytes; cause = x }) c

one_more : (f : Field) (one other : List Field) (rest after : List ℕ) → Meet one other rest after → Meet (f ∷ one) (f ∷ other) rest after
one_more f one other rest after (inl g) = inl (record { next = g.next; later = g.later; fields_are = ap (λ (xs : List Field). f ∷ xs) g.fields_are; rest_is = g.rest_is })
one_more f one other rest after (inr (inl g)) = inr (inl (record { next = g.next; later = g.later; fields_are = ap (λ (xs : List Field). f ∷ xs) g.fields_are; rest_is = g.rest_is }))
one_more f one other rest after (inr (inr g)) = inr (inr (record { fields = ap (λ (xs : List Field). f ∷ xs) g.fields; rests = g.rests }))

pub meet : {Part : Type 0} (fits : Part → Type 0) (fields_of : Part → List Field) → Steady fits fields_of → (u v : Part) → fits u → fits v → (done one other us vs : List Field) (rest after : List ℕ)
    → fields_of u ≡ done ++ (one ++ us) → fields_of v ≡ done ++ (other ++ vs) → text_of one ++ rest ≡ text_of other ++ after → Meet one other rest after
meet fits fields_of steady u v fu fv done [] [] us vs rest after eu ev e = inr (inr (record { fields = refl; rests = e }))
meet fits fields_of steady u v fu fv done [] (g ∷ gs) us vs rest after eu ev e = inl (record { next = g; later = gs; fields_are = refl; rest_is = e ∙ regroup g gs after })
meet fits fields_of steady u v fu fv done (f ∷ fs) [] us vs rest after eu ev e = inr (inl (record { next = f; later = fs; fields_are = refl; rest_is = sym e ∙ regroup f fs rest }))
meet fits fields_of steady u v fu fv done (f ∷ fs) (g ∷ gs) us vs rest after eu ev e =
    let kind : SameKind f g = steady u v done (f ∷ (fs ++ us)) (g ∷ (gs ++ vs)) fu fv eu ev in
    let split = sym (regroup f fs rest) ∙ e ∙ regroup g gs after in
    let same : f ≡ g = same_field f g (same_prefix f.bytes g.bytes (text_of fs ++ rest) (text_of gs ++ after) kind.len split) kind.cause in
    let later : text_of fs ++ rest ≡ text_of gs ++ after = same_back f.bytes g.bytes (text_of fs ++ rest) (text_of gs ++ after) kind.len split in
    let left : fields_of u ≡ (done ++ f ∷ []) ++ (fs ++ us) = eu ∙ sym (append_assoc done (f ∷ []) (fs ++ us)) in
    let right : fields_of v ≡ (done ++ f ∷ []) ++ (gs ++ vs) = ev ∙ sym (append_assoc done (g ∷ []) (gs ++ vs)) ∙ ap (λ (x : Field). (done ++ x ∷ []) ++ (gs ++ vs)) (sym same) in
    let tails : Meet fs gs rest after = meet fits fields_of steady u v fu fv (done ++ f ∷ []) fs gs us vs rest after left right later in
    subst (λ (x : Field). Meet (f ∷ fs) (x ∷ gs) rest after) same (one_more f fs gs rest after tails)

-- where a whole part stands, no field is the first bad one
pub none_bad : {Part : Type 0} (fits : Part → Type 0) (fields_of : Part → List Field) → Steady fits fields_of → (bytes after : List ℕ) (w : Wrong) (v : Part) → fits v → bytes ≡ text_of (fields_of v) ++ after → IsFirstBad fits fields_of bytes w → ⊥
none_bad {Part} fits fields_of steady bytes after w v fv e bad =
    done (meet fits fields_of steady bad.part v bad.fitting fv [] bad.before (fields_of v) (bad.field ∷ bad.after) [] bad.rest after bad.fields_are (sym (append-nil (fields_of v))) (sym bad.bytes_are ∙ e))
  where
    done : Meet bad.before (fields_of v) bad.rest after → ⊥
    done (inl g) = bad.none v g.next g.later (text_of g.later ++ after) fv g.fields_are g.rest_is
    done (inr (inl g)) =
        let all : fields_of bad.part ≡ fields_of v ++ (g.next ∷ (g.later ++ bad.field ∷ bad.after)) = bad.fields_are ∙ ap (λ (xs : List Field). xs ++ bad.field ∷ bad.after) g.fields_are ∙ append_assoc (fields_of v) (g.next ∷ g.later) (bad.field ∷ bad.after) in
        steady bad.part v (fields_of v) (g.next ∷ (g.later ++ bad.field ∷ bad.after)) [] bad.fitting fv all (sym (append-nil (fields_of v)))
    done (inr (inr g)) =
        steady bad.part v (fields_of v) (bad.field ∷ bad.after) [] bad.fitting fv (bad.fields_are ∙ ap (λ (xs : List Field). xs ++ bad.field ∷ bad.after) g.fields) (sym (append-nil (fields_of v)))

-- the fault of bytes that stand in the place of a field
abbrev pub fault_at : ℕ → Cause → List ℕ → Wrong
fault_at len cause rest = wrong_at (cond (ltb (length rest) len) Short cause) rest

-- one field is the first bad one
pub one_bad : {Part : Type 0} (fits : Part → Type 0) (fields_of : Part → List Field) → Steady fits fields_of → (bytes : List ℕ) (w v : Wrong) → IsFirstBad fits fields_of bytes w → IsFirstBad fits fields_of bytes v → w ≡ v
one_bad {Part} fits fields_of steady bytes w v one other =
    done (meet fits fields_of steady one.part other.part one.fitting other.fitting [] one.before other.before (one.field ∷ one.after) (other.field ∷ other.after) one.rest other.rest one.fields_are other.fields_are (sym one.bytes_are ∙ other.bytes_are))
  where
    done : Meet one.before other.before one.rest other.rest → w ≡ v
    done (inl g) =
        let all : fields_of other.part ≡ one.before ++ g.next ∷ (g.later ++ other.field ∷ other.after) = other.fields_are ∙ ap (λ (xs : List Field). xs ++ other.field ∷ other.after) g.fields_are ∙ append_assoc one.before (g.next ∷ g.later) (other.field ∷ other.after) in
        absurd (one.none other.part g.next (g.later ++ other.field ∷ other.after) (text_of g.later ++ other.rest) other.fitting all g.rest_is)
    done (inr (inl g)) =
        let all : fields_of one.part ≡ other.before ++ g.next ∷ (g.later ++ one.field ∷ one.after) = one.fields_are ∙ ap (λ (xs : List Field). xs ++ one.field ∷ one.after) g.fields_are ∙ append_assoc other.before (g.next ∷ g.later) (one.field ∷ one.after) in
        absurd (other.none one.part g.next (g.later ++ one.field ∷ one.after) (text_of g.later ++ one.rest) one.fitting all g.rest_is)
    done (inr (inr g)) =
        let kind : SameKind one.field other.field = steady one.part other.part one.before (one.field ∷ one.after) (other.field ∷ other.after) one.fitting other.fitting one.fields_are (other.fields_are ∙ ap (λ (xs : List Field). xs ++ other.field ∷ other.after) (sym g.fields)) in
        one.wrong_is ∙ ap (λ (n : ℕ). fault_at n one.field.cause one.rest) kind.len ∙ ap (λ (c : Cause). fault_at (length other.field.bytes) c one.rest) kind.cause
        ∙ ap (λ (r : List ℕ). fault_at (length other.field.bytes) other.field.cause r) g.rests ∙ sym other.wrong_is

-- ---- finding it

-- a field that is not whole is the first bad one
pub short_bad : {Part : Type 0} (fits : Part → Type 0) (fields_of : Part → List Field) → Steady fits fields_of → (u : Part) → fits u → (before : List Field) (field : Field) (after : List Field) (bytes rest : List ℕ) → fields_of u ≡ before ++ field ∷ after
    → bytes ≡ text_of before ++ rest → length rest < length field.bytes → IsFirstBad fits fields_of bytes (wrong_at Short rest)
short_bad {Part} fits fields_of steady u fu before field after bytes rest e bytes_are short = record {
  part = u;
  fitting = fu;
  before = before;
  field = field;
  after = after;
  fields_are = e;
  rest = rest;
  bytes_are = bytes_are;
  none = stands;
  wrong_is = rw (lt-ltb _ _ short) refl;
}
  where
    stands : (other : Part) (next : Field) (later : List Field) (more : List ℕ) → fits other → fields_of other ≡ before ++ next ∷ later → rest ≢ next.bytes ++ more
    stands other next later more fo eo is =
        let kind : SameKind field next = steady u other before (field ∷ after) (next ∷ later) fu fo e eo in
        omega (arith, short, kind.len, ap length is, length-append next.bytes more)

-- a whole field that stands in no part is the first bad one
pub other_bad : {Part : Type 0} (fits : Part → Type 0) (fields_of : Part → List Field) → (u : Part) → fits u → (before : List Field) (field : Field) (after : List Field) (bytes rest : List ℕ) → fields_of u ≡ before ++ field ∷ after
    → bytes ≡ text_of before ++ rest → length field.bytes ≤ length rest → ((other : Part) (next : Field) (later : List Field) (more : List ℕ) → fits other → fields_of other ≡ before ++ next ∷ later → rest ≢ next.bytes ++ more)
    → IsFirstBad fits fields_of bytes (wrong_at field.cause rest)
other_bad fits fields_of u fu before field after bytes rest e bytes_are whole none = record {
  part = u;
  fitting = fu;
  before = before;
  field = field;
  after = after;
  fields_are = e;
  rest = rest;
  bytes_are = bytes_are;
  none = none;
  wrong_is = rw (le-ltb _ _ whole) refl;
}

-- ---- more bytes after it

-- the text of fields
pub text_of-append : (xs ys : List Field) → text_of (xs ++ ys) ≡ text_of xs ++ text_of ys
text_of-append xs ys = flat_map-append (λ (f : Field). f.bytes) xs ys

-- something wrong, with more bytes after it
abbrev pub shift : ℕ → Wrong → Wrong
shift k w = record { left = w.left + k; cause = w.cause }

-- a prefix that is long enough holds a field whole
whole_prefix : (rest tail bytes more : List ℕ) → length bytes ≤ length rest → rest ++ tail ≡ bytes ++ more → rest ≡ bytes ++ drop (length bytes) rest
whole_prefix rest tail bytes more le e =
    let prefix : take (length bytes) rest ≡ bytes = sym (take-append-le (length bytes) rest tail le) ∙ ap (take (length bytes)) e ∙ take_at bytes more (length bytes) refl in
    sym (take-append-drop (length bytes) rest) ∙ ap (λ (t : List ℕ). t ++ drop (length bytes) rest) prefix

-- the fault is another than a want of bytes, or there are as many bytes as any part has
abbrev pub Whole : ℕ → List ℕ → Wrong → Type 0
Whole most bytes w = (w.cause ≢ Short) ⊎ (most ≤ length bytes)

-- then the field is whole
whole_field : {Part : Type 0} (fits : Part → Type 0) (fields_of : Part → List Field) (most : ℕ) → ((part : Part) → fits part → length (text_of (fields_of part)) ≤ most) → (bytes : List ℕ) (w : Wrong) → Whole most bytes w → (bad : IsFirstBad fits fields_of bytes w) → length bad.field.bytes ≤ length bad.rest
whole_field fits fields_of most few bytes w (inl not_short) bad =
    elim (cases_lt (length bad.rest) (length bad.field.bytes)) [
      | inl short ↦ absurd (not_short (ap (λ (v : Wrong). v.cause) bad.wrong_is ∙ ap (λ (b : Bool). cond b Short bad.field.cause) (lt-ltb _ _ short)))
      | inr le ↦ le
    ]
whole_field fits fields_of most few bytes w (inr enough) bad =
    let all = ap (λ (fs : List Field). length (text_of fs)) bad.fields_are in
    omega (arith, few bad.part bad.fitting, all, ap length (text_of-append bad.before (bad.field ∷ bad.after)), length-append (text_of bad.before) (text_of (bad.field ∷ bad.after)), length-append bad.field.bytes (text_of bad.after), ap length bad.bytes_are, length-append (text_of bad.before) bad.rest, enough)

-- a first bad field that is whole is one whatever follows
pub longer_bad : {Part : Type 0} (fits : Part → Type 0) (fields_of : Part → List Field) → Steady fits fields_of → (most : ℕ) → ((part : Part) → fits part → length (text_of (fields_of part)) ≤ most) → (bytes tail : List ℕ) (w : Wrong) → Whole most bytes w → IsFirstBad fits fields_of bytes w
    → IsFirstBad fits fields_of (bytes ++ tail) (shift (length tail) w)
longer_bad {Part} fits fields_of steady most few bytes tail w whole bad =
    subst (IsFirstBad fits fields_of (bytes ++ tail)) (sym shifted) (other_bad fits fields_of bad.part bad.fitting bad.before bad.field bad.after (bytes ++ tail) (bad.rest ++ tail) bad.fields_are
    (ap (λ (t : List ℕ). t ++ tail) bad.bytes_are ∙ append_assoc (text_of bad.before) bad.rest tail) (omega (arith, length-append bad.rest tail, le)) stands)
  where
    le : length bad.field.bytes ≤ length bad.rest
    le = whole_field fits fields_of most few bytes w whole bad

    shifted : shift (length tail) w ≡ wrong_at bad.field.cause (bad.rest ++ tail)
    shifted =
        let here : w ≡ wrong_at bad.field.cause bad.rest = bad.wrong_is ∙ ap (λ (b : Bool). wrong_at (cond b Short bad.field.cause) bad.rest) (le-ltb _ _ le) in
        ap (shift (length tail)) here ∙ ap (λ (k : ℕ). record { left = k; cause = bad.field.cause }) (sym (length-append bad.rest tail))

    stands : (other : Part) (next : Field) (later : List Field) (more : List ℕ) → fits other → fields_of other ≡ bad.before ++ next ∷ later → bad.rest ++ tail ≢ next.bytes ++ more
    stands other next later more fo eo is =
        let kind : SameKind bad.field next = steady bad.part other bad.before (bad.field ∷ bad.after) (next ∷ later) bad.fitting fo bad.fields_are eo in
        bad.none other next later (drop (length next.bytes) bad.rest) fo eo (whole_prefix bad.rest tail next.bytes more (omega (arith, le, kind.len)) is)

-- ---- where it stands

-- it stands within the bytes
pub bad_within : {Part : Type 0} (fits : Part → Type 0) (fields_of : Part → List Field) (bytes : List ℕ) (w : Wrong) → IsFirstBad fits fields_of bytes w → w.left ≤ length bytes
bad_within fits fields_of bytes w bad = omega (arith, ap (λ (v : Wrong). v.left) bad.wrong_is, ap length bad.bytes_are, length-append (text_of bad.before) bad.rest)
