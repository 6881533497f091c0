-- The literals of an entry: where reading them stops, they are wrong; one thing is wrong with them, and nothing where
-- right ones stand.
use Rattle.std.proofs.Common.{◌≡◌, ℕ, zero, suc, ◌+◌, ◌-◌, ◌*◌, ◌<◌, ◌≤◌, Bool, false, cond, ltb, List, [], ◌∷◌, ◌++◌, length, sum_by, drop, Result, Ok, Err, ◌⊎◌, inl, inr, refl, sym, ap, subst, ◌∙◌, append_assoc, arith}
use Rattle.std.specs.List.{flat_map}
use Rattle.std.specs.Int.{w16, to_be_bytes}
use Rattle.std.proofs.lemmas.Bool.{cases_lt, lt-ltb, le-ltb}
use Rattle.std.proofs.lemmas.List.{append-nil, length-append, length-drop}
use Rattle.std.proofs.lemmas.List.Sums.{sum_by-cons}
use Rattle.lit_base.specs.Flags.{flags_of, fold_of, profile_of}
use Rattle.lit_base.specs.declared.fold.Fold.{Fold}
use Rattle.lit_base.specs.declared.limits.TheConstants.{MAX_LITERAL_LEN, MAX_LIST_LEN}
use Rattle.lit_base.specs.declared.profile.Profile.{Profile}
use Rattle.lit_base.specs.Literals.{Literals, IsNormal, literal_cmp}
use Rattle.plan_file.specs.declared.fault.Cause.{Cause}
use Rattle.plan_file.specs.declared.fault.Cause.TheVariants.{Short, Count, Flags, Literal, Order}
use Rattle.plan_file.specs.declared.fault.Wrong.{Wrong}
use Rattle.plan_file.specs.declared.version.Version.{Version}
use Rattle.plan_file.specs.FirstBad.{FitsList, FitsLiteral, FitsStart, IsFirstBad, Start, literal_fields, start_fields, text_of}
use Rattle.plan_file.specs.FirstFaults.{IsWrongList, IsWrongLiteral, last_of}
use Rattle.plan_file.specs.Reading.{◌>>=◌, wrong_at, byte_at, number_at, field, folded_len, last_flags, list_at, literal_at, literals_at}
use Rattle.plan_file.specs.Spelling.{limit_of, literal_text, literals_text}
use Rattle.plan_file.proofs.FieldLemmas.{AreBytes, Took, byte_read, field_read, none_stopped, number_read, rest_bytes, same_number, stop, took_both}
use Rattle.plan_file.proofs.LiteralLemmas.{Follow, IsNext, folded_len_whole, follow_normal, literal_next, literal_read, normal_from}
use Rattle.plan_file.proofs.PartLemmas.{Whole, bad_within, heads_same, longer_bad, none_bad, one_bad, same_back, same_prefix, shift, tails_same}
use Rattle.plan_file.proofs.Parts.{count_bad, flags_bad, literal_bad, literal_steady, start_steady}
use Rattle.plan_file.proofs.PlanLemmas.{at_most, between, fold_again, flags_again, flags_can, is_count, is_flag, last_few, limit_few, profile_again}

-- ---- where reading stops

-- literals of which the first are right, and the next one is wrong
pub record LiteralsStop (fold : Fold) (n room : ℕ) (before bytes : List ℕ) (e : Wrong) : Type 0 where
  pub texts : List (List ℕ)
  pub rest : List ℕ
  pub fewer : length texts < n
  pub follow : Follow fold room before texts
  pub took : Took bytes (flat_map literal_text texts) rest
  pub wrong : IsWrongLiteral fold (room - sum_by length texts) (last_of before texts) rest e

pub literals_stop : (fold : Fold) (n room : ℕ) (before bytes : List ℕ) (e : Wrong) → AreBytes bytes → literals_at fold n room before bytes ≡ Err e → LiteralsStop fold n room before bytes e
unfolding literals_at
literals_stop fold zero room before bytes e are is = absurd cc
literals_stop fold (suc n) room before bytes e are is =
    elim (stop (literal_at fold room before bytes) (λ first. literals_at fold n (room - length first.0) first.0 first.1 >>= λ others. Ok (first.0 ∷ others.0, others.1)) e is) [
      | inl f ↦
          let all : room ≡ room - 0 = omega arith in
          record { texts = []; rest = bytes; fewer = omega arith; follow = tt; took = refl; wrong = subst (λ (k : ℕ). IsWrongLiteral fold k before bytes e) all (literal_bad fold room before bytes e are f) }
      | inr p ↦
          let text = p.0.0 in
          let took = literal_read fold room before bytes p.0 are p.1 in
          elim (stop (literals_at fold n (room - length text) text p.0.1) (λ others. Ok (text ∷ others.0, others.1)) e p.2) [
            | inl f ↦
                let s = literals_stop fold n (room - length text) text p.0.1 e (rest_bytes (literal_text text) p.0.1 took are) f in
                let left : room - length text - sum_by length s.texts ≡ room - sum_by length (text ∷ s.texts) = omega (arith, sum_by-cons {X = List ℕ} length text s.texts) in
                record {
                  texts = text ∷ s.texts;
                  rest = s.rest;
                  fewer = omega (arith, s.fewer);
                  follow = (literal_next fold room before bytes p.0 p.1, s.follow);
                  took = took_both (literal_text text) (flat_map literal_text s.texts) s.rest took s.took;
                  wrong = subst (λ (k : ℕ). IsWrongLiteral fold k (last_of text s.texts) s.rest e) left s.wrong;
                }
            | inr q ↦ absurd (none_stopped q.2)
          ]
    ]

-- where reading the literals of an entry stops, they are wrong
pub list_bad : (version : Version) (bytes : List ℕ) (e : Wrong) → AreBytes bytes → list_at version bytes ≡ Err e → IsWrongList version bytes e
unfolding list_at
list_bad version bytes e are is =
    let limit = limit_of version in
    let made : ℕ × List ℕ → List (List ℕ) × List ℕ → Result ((Profile × Literals) × List ℕ) Wrong = λ flags texts. Ok ((profile_of flags.0, record { folding = fold_of flags.0; texts = texts.0 }), texts.1) in
    let after : ℕ × List ℕ → ℕ × List ℕ → Result ((Profile × Literals) × List ℕ) Wrong = λ flags n. literals_at (fold_of flags.0) n.0 MAX_LIST_LEN [] n.1 >>= made flags in
    elim (stop (field bytes (is_flag version) Flags (byte_at bytes)) (λ flags. field flags.1 (is_count limit) Count (number_at w16 flags.1) >>= after flags) e is) [
      | inl f ↦ inl (flags_bad version bytes e f)
      | inr p ↦
          let flag = field_read bytes (is_flag version) Flags (byte_at bytes) p.0 p.1 in
          let known = at_most p.0.0 (last_flags version) flag.1 in
          let t0 = byte_read bytes p.0 flag.0 in
          let are1 = rest_bytes (p.0.0 ∷ []) p.0.1 t0 are in
          elim (stop (field p.0.1 (is_count limit) Count (number_at w16 p.0.1)) (after p.0) e p.2) [
            | inl f ↦ inl (count_bad version p.0.0 bytes p.0.1 e known t0 are1 f)
            | inr q ↦
                let number = field_read p.0.1 (is_count limit) Count (number_at w16 p.0.1) q.0 q.1 in
                let range = between 1 limit q.0.0 number.1 in
                let t1 = (number_read w16 tt p.0.1 q.0 are1 number.0).0 in
                elim (stop (literals_at (fold_of p.0.0) q.0.0 MAX_LIST_LEN [] q.0.1) (made p.0) e q.2) [
                  | inl f ↦
                      let s = literals_stop (fold_of p.0.0) q.0.0 MAX_LIST_LEN [] q.0.1 e (rest_bytes (to_be_bytes w16 q.0.0) q.0.1 t1 are1) f in
                      let start : Start = record { fold = fold_of p.0.0; profile = profile_of p.0.0; count = q.0.0 } in
                      let flags : p.0.0 ≡ flags_of start.fold start.profile = flags_again p.0.0 (omega (arith, known, last_few version)) in
                      inr (record {
                        start = start;
                        fits = record { profile = flags_can version p.0.0 known; some = range.0; few = range.1 };
                        texts = s.texts;
                        rest = s.rest;
                        bytes_are = t0 ∙ ap (λ (b : ℕ). b ∷ p.0.1) flags ∙ ap (λ (t : List ℕ). flags_of start.fold start.profile ∷ t) (t1 ∙ ap (λ (t : List ℕ). to_be_bytes w16 q.0.0 ++ t) s.took);
                        missing = s.fewer;
                        right = normal_from (fold_of p.0.0) s.texts (omega (arith, s.fewer, range.1, limit_few version)) s.follow;
                        wrong = s.wrong;
                      })
                  | inr r ↦ absurd (none_stopped r.2)
                ]
          ]
    ]

-- ---- one literal

-- two literals at the start of one text are one
pub record SameLiteral (a b s t : List ℕ) : Type 0 where
  pub text : a ≡ b
  pub rest : s ≡ t

pub same_literal : (a b s t : List ℕ) → length a ≤ MAX_LITERAL_LEN → length b ≤ MAX_LITERAL_LEN → literal_text a ++ s ≡ literal_text b ++ t → SameLiteral a b s t
same_literal a b s t la lb e =
    let split : to_be_bytes w16 (length a) ++ (a ++ s) ≡ to_be_bytes w16 (length b) ++ (b ++ t) = sym (append_assoc (to_be_bytes w16 (length a)) a s) ∙ e ∙ append_assoc (to_be_bytes w16 (length b)) b t in
    let len : length a ≡ length b = same_number w16 tt (length a) (length b) (omega (arith, la)) (omega (arith, lb)) (same_prefix (to_be_bytes w16 (length a)) (to_be_bytes w16 (length b)) (a ++ s) (b ++ t) refl split) in
    let back = same_back (to_be_bytes w16 (length a)) (to_be_bytes w16 (length b)) (a ++ s) (b ++ t) refl split in
    record { text = same_prefix a b s t len back; rest = same_back a b s t len back }

-- the fields of a literal are its spelling
literal_fields_text : (text later : List ℕ) → literal_text text ++ later ≡ text_of (literal_fields text) ++ later
literal_fields_text text later = ap (λ (t : List ℕ). (to_be_bytes w16 (length text) ++ t) ++ later) (sym (append-nil text))

-- a literal that fits has no bad field
fitting_literal : (room : ℕ) (bytes text later : List ℕ) (w : Wrong) → FitsLiteral room text → bytes ≡ literal_text text ++ later → IsFirstBad (FitsLiteral room) literal_fields bytes w → ⊥
fitting_literal room bytes text later w fits e bad = none_bad (FitsLiteral room) literal_fields (literal_steady room) bytes later w text fits (e ∙ literal_fields_text text later) bad

fits_next : (fold : Fold) (room : ℕ) (before text : List ℕ) → IsNext fold room before text → FitsLiteral room text
fits_next fold room before text next = record { some = next.some; short = next.short; fits = next.fits }

-- where a right literal stands, nothing is wrong
pub none_literal : (fold : Fold) (room : ℕ) (before bytes text later : List ℕ) (w : Wrong) → IsNext fold room before text → bytes ≡ literal_text text ++ later → IsWrongLiteral fold room before bytes w → ⊥
none_literal fold room before bytes text later w next e (inl bad) = fitting_literal room bytes text later w (fits_next fold room before text next) e bad
none_literal fold room before bytes text later w next e (inr (inl full)) = omega (arith, full.0, next.some, next.fits)
none_literal fold room before bytes text later w next e (inr (inr (inl u))) =
    let same = same_literal u.text text u.rest later u.fits.short next.short (sym u.bytes_are ∙ e) in
    let less : folded_len fold text < length text = subst (λ (t : List ℕ). folded_len fold t < length t) same.text u.unfolded in
    omega (arith, less, folded_len_whole fold text next.folded)
none_literal fold room before bytes text later w next e (inr (inr (inr o))) =
    let same = same_literal o.text text o.rest later o.fits.short next.short (sym o.bytes_are ∙ e) in
    o.not_after (ap (literal_cmp before) same.text ∙ next.after)

-- one thing is wrong with a literal
pub one_literal : (fold : Fold) (room : ℕ) (before bytes : List ℕ) (w v : Wrong) → IsWrongLiteral fold room before bytes w → IsWrongLiteral fold room before bytes v → w ≡ v
one_literal fold room before bytes w v (inl a) (inl b) = one_bad (FitsLiteral room) literal_fields (literal_steady room) bytes w v a b
one_literal fold room before bytes w v (inl a) (inr (inl full)) = absurd (omega (arith, full.0, a.fitting.some, a.fitting.fits))
one_literal fold room before bytes w v (inl a) (inr (inr (inl u))) = absurd (fitting_literal room bytes u.text u.rest w u.fits u.bytes_are a)
one_literal fold room before bytes w v (inl a) (inr (inr (inr o))) = absurd (fitting_literal room bytes o.text o.rest w o.fits o.bytes_are a)
one_literal fold room before bytes w v (inr (inl full)) (inl b) = absurd (omega (arith, full.0, b.fitting.some, b.fitting.fits))
one_literal fold room before bytes w v (inr (inl full)) (inr (inl other)) = full.1 ∙ sym other.1
one_literal fold room before bytes w v (inr (inl full)) (inr (inr (inl u))) = absurd (omega (arith, full.0, u.fits.some, u.fits.fits))
one_literal fold room before bytes w v (inr (inl full)) (inr (inr (inr o))) = absurd (omega (arith, full.0, o.fits.some, o.fits.fits))
one_literal fold room before bytes w v (inr (inr (inl u))) (inl b) = absurd (fitting_literal room bytes u.text u.rest v u.fits u.bytes_are b)
one_literal fold room before bytes w v (inr (inr (inl u))) (inr (inl full)) = absurd (omega (arith, full.0, u.fits.some, u.fits.fits))
one_literal fold room before bytes w v (inr (inr (inl u))) (inr (inr (inl n))) =
    let same = same_literal u.text n.text u.rest n.rest u.fits.short n.fits.short (sym u.bytes_are ∙ n.bytes_are) in
    u.wrong_is ∙ ap (λ (t : List ℕ). wrong_at Literal (drop (folded_len fold t) t ++ u.rest)) same.text ∙ ap (λ (r : List ℕ). wrong_at Literal (drop (folded_len fold n.text) n.text ++ r)) same.rest ∙ sym n.wrong_is
one_literal fold room before bytes w v (inr (inr (inl u))) (inr (inr (inr o))) =
    let same = same_literal u.text o.text u.rest o.rest u.fits.short o.fits.short (sym u.bytes_are ∙ o.bytes_are) in
    let less : folded_len fold o.text < length o.text = subst (λ (t : List ℕ). folded_len fold t < length t) same.text u.unfolded in
    absurd (omega (arith, less, folded_len_whole fold o.text o.folded))
one_literal fold room before bytes w v (inr (inr (inr o))) (inl b) = absurd (fitting_literal room bytes o.text o.rest v o.fits o.bytes_are b)
one_literal fold room before bytes w v (inr (inr (inr o))) (inr (inl full)) = absurd (omega (arith, full.0, o.fits.some, o.fits.fits))
one_literal fold room before bytes w v (inr (inr (inr o))) (inr (inr (inl u))) =
    let same = same_literal u.text o.text u.rest o.rest u.fits.short o.fits.short (sym u.bytes_are ∙ o.bytes_are) in
    let less : folded_len fold o.text < length o.text = subst (λ (t : List ℕ). folded_len fold t < length t) same.text u.unfolded in
    absurd (omega (arith, less, folded_len_whole fold o.text o.folded))
one_literal fold room before bytes w v (inr (inr (inr o))) (inr (inr (inr n))) = o.wrong_is ∙ sym n.wrong_is

-- no literal for which there is room has more bytes
literal_few : (room : ℕ) (text : List ℕ) → FitsLiteral room text → length (text_of (literal_fields text)) ≤ 2 + room
literal_few room text fits = omega (arith, fits.fits, ap length (append-nil text))

pub shift_at : (cause : Cause) (bytes tail : List ℕ) → shift (length tail) (wrong_at cause bytes) ≡ wrong_at cause (bytes ++ tail)
shift_at cause bytes tail = ap (λ (k : ℕ). record { left = k; cause = cause }) (sym (length-append bytes tail))

-- more bytes after a whole literal
more_after : (text rest tail : List ℕ) {bytes : List ℕ} → bytes ≡ literal_text text ++ rest → bytes ++ tail ≡ literal_text text ++ (rest ++ tail)
more_after text rest tail e = ap (λ (t : List ℕ). t ++ tail) e ∙ append_assoc (literal_text text) rest tail

-- what is wrong with a literal is wrong whatever follows, if it is whole
pub longer_literal : (fold : Fold) (room : ℕ) (before bytes tail : List ℕ) (w : Wrong) → Whole (2 + room) bytes w → IsWrongLiteral fold room before bytes w → IsWrongLiteral fold room before (bytes ++ tail) (shift (length tail) w)
longer_literal fold room before bytes tail w whole (inl bad) = inl (longer_bad (FitsLiteral room) literal_fields (literal_steady room) (2 + room) (literal_few room) bytes tail w whole bad)
longer_literal fold room before bytes tail w whole (inr (inl full)) = inr (inl (full.0, by_len (cases_lt (length bytes) 2) whole))
  where
    by_len : (length bytes < 2) ⊎ (2 ≤ length bytes) → Whole (2 + room) bytes w → shift (length tail) w ≡ wrong_at (cond (ltb (length (bytes ++ tail)) 2) Short Literal) (bytes ++ tail)
    by_len (inl less) (inl not_short) = absurd (not_short (ap (λ (x : Wrong). x.cause) full.1 ∙ ap (λ (b : Bool). cond b Short Literal) (lt-ltb _ _ less)))
    by_len (inl less) (inr enough) = absurd (omega (arith, less, enough))
    by_len (inr le) some =
        let here : w ≡ wrong_at Literal bytes = full.1 ∙ ap (λ (b : Bool). wrong_at (cond b Short Literal) bytes) (le-ltb _ _ le) in
        let there : ltb (length (bytes ++ tail)) 2 ≡ false = le-ltb _ _ (omega (arith, le, length-append bytes tail)) in
        ap (shift (length tail)) here ∙ shift_at Literal bytes tail ∙ ap (λ (b : Bool). wrong_at (cond b Short Literal) (bytes ++ tail)) (sym there)
longer_literal fold room before bytes tail w whole (inr (inr (inl u))) =
    let back : drop (folded_len fold u.text) u.text ++ (u.rest ++ tail) ≡ (drop (folded_len fold u.text) u.text ++ u.rest) ++ tail = sym (append_assoc (drop (folded_len fold u.text) u.text) u.rest tail) in
    inr (inr (inl (record {
      text = u.text;
      rest = u.rest ++ tail;
      fits = u.fits;
      bytes_are = more_after u.text u.rest tail u.bytes_are;
      unfolded = u.unfolded;
      wrong_is = ap (shift (length tail)) u.wrong_is ∙ shift_at Literal (drop (folded_len fold u.text) u.text ++ u.rest) tail ∙ ap (wrong_at Literal) (sym back);
    })))
longer_literal fold room before bytes tail w whole (inr (inr (inr o))) =
    inr (inr (inr (record {
      text = o.text;
      rest = o.rest ++ tail;
      fits = o.fits;
      bytes_are = more_after o.text o.rest tail o.bytes_are;
      folded = o.folded;
      not_after = o.not_after;
      wrong_is = ap (shift (length tail)) o.wrong_is ∙ shift_at Order bytes tail;
    })))

-- it stands within the bytes
pub literal_within : (fold : Fold) (room : ℕ) (before bytes : List ℕ) (w : Wrong) → IsWrongLiteral fold room before bytes w → w.left ≤ length bytes
literal_within fold room before bytes w (inl bad) = bad_within (FitsLiteral room) literal_fields bytes w bad
literal_within fold room before bytes w (inr (inl full)) = omega (arith, ap (λ (x : Wrong). x.left) full.1)
literal_within fold room before bytes w (inr (inr (inl u))) =
    omega (arith, ap (λ (x : Wrong). x.left) u.wrong_is, ap length u.bytes_are, length-append (literal_text u.text) u.rest, length-append (drop (folded_len fold u.text) u.text) u.rest, length-drop (folded_len fold u.text) u.text, length-append (to_be_bytes w16 (length u.text)) u.text)
literal_within fold room before bytes w (inr (inr (inr o))) = omega (arith, ap (λ (x : Wrong). x.left) o.wrong_is)

-- ---- literals one after the other

others : (text : List ℕ) (texts : List (List ℕ)) (rest : List ℕ) → flat_map literal_text (text ∷ texts) ++ rest ≡ literal_text text ++ (flat_map literal_text texts ++ rest)
others text texts rest = append_assoc (literal_text text) (flat_map literal_text texts) rest

-- the room after literals
room_after : (room : ℕ) (text : List ℕ) (texts : List (List ℕ)) → room - sum_by length (text ∷ texts) ≡ room - length text - sum_by length texts
room_after room text texts = omega (arith, sum_by-cons {X = List ℕ} length text texts)

all_room : (room : ℕ) → room - 0 ≡ room
all_room room = omega arith

-- where more literals stand, nothing is wrong after the first of them
none_after : (fold : Fold) (room : ℕ) (before : List ℕ) (ts us : List (List ℕ)) (r s : List ℕ) (w : Wrong) → Follow fold room before ts → Follow fold room before us → length ts < length us → flat_map literal_text ts ++ r ≡ flat_map literal_text us ++ s
    → IsWrongLiteral fold (room - sum_by length ts) (last_of before ts) r w → ⊥
none_after fold room before ts [] r s w ft fu less e wrong = omega (arith, less)
none_after fold room before [] (u ∷ us) r s w ft fu less e wrong =
    none_literal fold room before r u (flat_map literal_text us ++ s) w fu.0 (e ∙ others u us s) (subst (λ (k : ℕ). IsWrongLiteral fold k before r w) (all_room room) wrong)
none_after fold room before (t ∷ ts) (u ∷ us) r s w ft fu less e wrong =
    let same = same_literal t u (flat_map literal_text ts ++ r) (flat_map literal_text us ++ s) ft.0.short fu.0.short (sym (others t ts r) ∙ e ∙ others u us s) in
    let fu' : Follow fold (room - length t) t us = subst (λ (x : List ℕ). Follow fold (room - length x) x us) (sym same.text) fu.1 in
    none_after fold (room - length t) t ts us r s w ft.1 fu' (omega (arith, less)) same.rest (subst (λ (k : ℕ). IsWrongLiteral fold k (last_of t ts) r w) (room_after room t ts) wrong)

-- one thing is wrong after right literals
one_after : (fold : Fold) (room : ℕ) (before : List ℕ) (ts us : List (List ℕ)) (r s : List ℕ) (w v : Wrong) → Follow fold room before ts → Follow fold room before us → flat_map literal_text ts ++ r ≡ flat_map literal_text us ++ s
    → IsWrongLiteral fold (room - sum_by length ts) (last_of before ts) r w → IsWrongLiteral fold (room - sum_by length us) (last_of before us) s v → w ≡ v
one_after fold room before [] [] r s w v ft fu e one other =
    one_literal fold (room - 0) before s w v (subst (λ (x : List ℕ). IsWrongLiteral fold (room - 0) before x w) e one) other
one_after fold room before [] (u ∷ us) r s w v ft fu e one other = absurd (none_after fold room before [] (u ∷ us) r s w ft fu (omega arith) e one)
one_after fold room before (t ∷ ts) [] r s w v ft fu e one other = absurd (none_after fold room before [] (t ∷ ts) s r v fu ft (omega arith) (sym e) other)
one_after fold room before (t ∷ ts) (u ∷ us) r s w v ft fu e one other =
    let same = same_literal t u (flat_map literal_text ts ++ r) (flat_map literal_text us ++ s) ft.0.short fu.0.short (sym (others t ts r) ∙ e ∙ others u us s) in
    let fu' : Follow fold (room - length t) t us = subst (λ (x : List ℕ). Follow fold (room - length x) x us) (sym same.text) fu.1 in
    let other' : IsWrongLiteral fold (room - length u - sum_by length us) (last_of u us) s v = subst (λ (k : ℕ). IsWrongLiteral fold k (last_of u us) s v) (room_after room u us) other in
    one_after fold (room - length t) t ts us r s w v ft.1 fu' same.rest (subst (λ (k : ℕ). IsWrongLiteral fold k (last_of t ts) r w) (room_after room t ts) one)
    (subst (λ (x : List ℕ). IsWrongLiteral fold (room - length x - sum_by length us) (last_of x us) s v) (sym same.text) other')

-- ---- the literals of an entry

-- two starts at the start of one text are one
record SameStart (a b : Start) (s t : List ℕ) : Type 0 where
  start : a ≡ b
  rest : s ≡ t

same_start : (version : Version) (a b : Start) (s t : List ℕ) → FitsStart version a → FitsStart version b → text_of (start_fields a) ++ s ≡ text_of (start_fields b) ++ t → SameStart a b s t
same_start version a b s t fa fb e =
    let flags : flags_of a.fold a.profile ≡ flags_of b.fold b.profile = heads_same e in
    let split : to_be_bytes w16 a.count ++ s ≡ to_be_bytes w16 b.count ++ t = tails_same e in
    let count : a.count ≡ b.count = same_number w16 tt a.count b.count (omega (arith, fa.few, limit_few version)) (omega (arith, fb.few, limit_few version)) (same_prefix (to_be_bytes w16 a.count) (to_be_bytes w16 b.count) s t refl split) in
    let fold : a.fold ≡ b.fold = sym (fold_again a.fold a.profile) ∙ ap fold_of flags ∙ fold_again b.fold b.profile in
    let profile : a.profile ≡ b.profile = sym (profile_again a.fold a.profile) ∙ ap profile_of flags ∙ profile_again b.fold b.profile in
    record {
      start = ap (λ (x : Fold). record { fold = x; profile = a.profile; count = a.count }) fold ∙ ap (λ (x : Profile). record { fold = b.fold; profile = x; count = a.count }) profile ∙ ap (λ (x : ℕ). record { fold = b.fold; profile = b.profile; count = x }) count;
      rest = same_back (to_be_bytes w16 a.count) (to_be_bytes w16 b.count) s t refl split;
    }

list_start : Profile → Literals → Start
list_start profile l = record { fold = l.folding; profile = profile; count = length l.texts }

-- right literals begin with their start
starts : (profile : Profile) (l : Literals) (rest : List ℕ) → literals_text profile l ++ rest ≡ text_of (start_fields (list_start profile l)) ++ (flat_map literal_text l.texts ++ rest)
unfolding list_start
starts profile l rest = ap (λ (t : List ℕ). flags_of l.folding profile ∷ t) (append_assoc (to_be_bytes w16 (length l.texts)) (flat_map literal_text l.texts) rest)

start_fits : (version : Version) (profile : Profile) (l : Literals) → FitsList version profile l → FitsStart version (list_start profile l)
unfolding list_start
start_fits version profile l fits = record { profile = fits.can; some = fits.some; few = fits.few }

follow_of : (start : Start) (texts : List (List ℕ)) → IsNormal (record { folding = start.fold; texts = texts }) → Follow start.fold MAX_LIST_LEN [] texts
follow_of start texts normal = follow_normal (record { folding = start.fold; texts = texts }) normal

-- where right literals stand, nothing is wrong with them
pub none_list : (version : Version) (bytes : List ℕ) (profile : Profile) (l : Literals) (rest : List ℕ) (w : Wrong) → FitsList version profile l → bytes ≡ literals_text profile l ++ rest → IsWrongList version bytes w → ⊥
unfolding list_start
none_list version bytes profile l rest w fits e (inl bad) =
    none_bad (FitsStart version) start_fields (start_steady version) bytes (flat_map literal_text l.texts ++ rest) w (list_start profile l) (start_fits version profile l fits) (e ∙ starts profile l rest) bad
none_list version bytes profile l rest w fits e (inr i) =
    let same = same_start version i.start (list_start profile l) (flat_map literal_text i.texts ++ i.rest) (flat_map literal_text l.texts ++ rest) i.fits (start_fits version profile l fits) (sym i.bytes_are ∙ e ∙ starts profile l rest) in
    let follow : Follow i.start.fold MAX_LIST_LEN [] l.texts = subst (λ (s : Start). Follow s.fold MAX_LIST_LEN [] l.texts) (sym same.start) (follow_normal l fits.normal) in
    let count : i.start.count ≡ length l.texts = ap (λ (s : Start). s.count) same.start in
    none_after i.start.fold MAX_LIST_LEN [] i.texts l.texts i.rest rest w (follow_of i.start i.texts i.right) follow (omega (arith, i.missing, count)) same.rest i.wrong

-- a start that fits has no bad field
fitting_start : (version : Version) (bytes rest : List ℕ) (start : Start) (w : Wrong) → FitsStart version start → bytes ≡ text_of (start_fields start) ++ rest → IsFirstBad (FitsStart version) start_fields bytes w → ⊥
fitting_start version bytes rest start w fits e bad = none_bad (FitsStart version) start_fields (start_steady version) bytes rest w start fits e bad

-- one thing is wrong with the literals of an entry
pub one_list : (version : Version) (bytes : List ℕ) (w v : Wrong) → IsWrongList version bytes w → IsWrongList version bytes v → w ≡ v
one_list version bytes w v (inl a) (inl b) = one_bad (FitsStart version) start_fields (start_steady version) bytes w v a b
one_list version bytes w v (inl a) (inr j) = absurd (fitting_start version bytes (flat_map literal_text j.texts ++ j.rest) j.start w j.fits j.bytes_are a)
one_list version bytes w v (inr i) (inl b) = absurd (fitting_start version bytes (flat_map literal_text i.texts ++ i.rest) i.start v i.fits i.bytes_are b)
one_list version bytes w v (inr i) (inr j) =
    let same = same_start version i.start j.start (flat_map literal_text i.texts ++ i.rest) (flat_map literal_text j.texts ++ j.rest) i.fits j.fits (sym i.bytes_are ∙ j.bytes_are) in
    let follow : Follow i.start.fold MAX_LIST_LEN [] j.texts = subst (λ (s : Start). Follow s.fold MAX_LIST_LEN [] j.texts) (sym same.start) (follow_of j.start j.texts j.right) in
    let other : IsWrongLiteral i.start.fold (MAX_LIST_LEN - sum_by length j.texts) (last_of [] j.texts) j.rest v =
    subst (λ (s : Start). IsWrongLiteral s.fold (MAX_LIST_LEN - sum_by length j.texts) (last_of [] j.texts) j.rest v) (sym same.start) j.wrong in
    one_after i.start.fold MAX_LIST_LEN [] i.texts j.texts i.rest j.rest w v (follow_of i.start i.texts i.right) follow same.rest i.wrong other

-- ---- with more bytes after them

-- fewer bytes are enough
pub whole_fewer : (few most : ℕ) (bytes : List ℕ) (w : Wrong) → few ≤ most → Whole most bytes w → Whole few bytes w
whole_fewer few most bytes w le (inl not_short) = inl not_short
whole_fewer few most bytes w le (inr enough) = inr (omega (arith, le, enough))

-- as many bytes are left as are needed
pub whole_rest : (most need : ℕ) (bytes rest : List ℕ) (w : Wrong) → (most ≤ length bytes → need ≤ length rest) → Whole most bytes w → Whole need rest w
whole_rest most need bytes rest w left (inl not_short) = inl not_short
whole_rest most need bytes rest w left (inr enough) = inr (left enough)

-- the bytes of literals
pub texts_len : (ts : List (List ℕ)) → length (flat_map literal_text ts) ≡ 2 * length ts + sum_by length ts
texts_len [] = refl
texts_len (t ∷ ts) = omega (arith, length-append (literal_text t) (flat_map literal_text ts), length-append (to_be_bytes w16 (length t)) t, texts_len ts, sum_by-cons {X = List ℕ} length t ts)

-- the literals of an entry take no more bytes, in either version
abbrev pub list_bytes : ℕ
list_bytes = 1056771

pub longer_list : (version : Version) (bytes tail : List ℕ) (w : Wrong) → Whole list_bytes bytes w → IsWrongList version bytes w → IsWrongList version (bytes ++ tail) (shift (length tail) w)
longer_list version bytes tail w whole (inl bad) =
    inl (longer_bad (FitsStart version) start_fields (start_steady version) 3 (λ start fits. omega arith) bytes tail w (whole_fewer 3 list_bytes bytes w (omega arith) whole) bad)
longer_list version bytes tail w whole (inr i) =
    let prefix = text_of (start_fields i.start) in
    let texts = flat_map literal_text i.texts in
    let room = MAX_LIST_LEN - sum_by length i.texts in
    let enough : list_bytes ≤ length bytes → 2 + room ≤ length i.rest =
    λ le. omega (arith, le, ap length i.bytes_are, length-append texts i.rest, texts_len i.texts, i.missing, i.fits.few, limit_few version, i.right.small) in
    inr (record {
      start = i.start;
      fits = i.fits;
      texts = i.texts;
      rest = i.rest ++ tail;
      bytes_are = ap (λ (t : List ℕ). t ++ tail) i.bytes_are ∙ append_assoc prefix (texts ++ i.rest) tail ∙ ap (λ (t : List ℕ). prefix ++ t) (append_assoc texts i.rest tail);
      missing = i.missing;
      right = i.right;
      wrong = longer_literal i.start.fold room (last_of [] i.texts) i.rest tail w (whole_rest list_bytes (2 + room) bytes i.rest w enough whole) i.wrong;
    })

-- it stands within the bytes
pub list_within : (version : Version) (bytes : List ℕ) (w : Wrong) → IsWrongList version bytes w → w.left ≤ length bytes
list_within version bytes w (inl bad) = bad_within (FitsStart version) start_fields bytes w bad
list_within version bytes w (inr i) =
    omega (arith, literal_within i.start.fold (MAX_LIST_LEN - sum_by length i.texts) (last_of [] i.texts) i.rest w i.wrong, ap length i.bytes_are, length-append (flat_map literal_text i.texts) i.rest)
