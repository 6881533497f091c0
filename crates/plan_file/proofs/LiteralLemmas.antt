-- Literals that were read are in normal form, and those in normal form are read.
use Rattle.std.proofs.Common.{◌≡◌, ◌≢◌, ℕ, zero, suc, ◌+◌, ◌-◌, ◌^◌, ◌<◌, ◌≤◌, Bool, true, false, cond, ltb, leb, eqb, ◌&&◌, not, List, [], ◌∷◌, ◌++◌, length, get_or, sum_by, drop, Result, Ok, Err, Ordering, refl, sym, ap, subst, ◌∙◌, append_assoc, arith}
use Rattle.std.specs.declared.cmp.Ordering.TheVariants.{Less, Equal, Greater}
use Rattle.std.specs.Ordering.{is_lt}
use Rattle.std.specs.List.{flat_map, AllByRecursion}
use Rattle.std.specs.List.Sorted.{IsStrictlySortedBy}
use Rattle.std.specs.Int.{w16, to_be_bytes}
use Rattle.std.proofs.lemmas.Bool.{ltb-false, le-ltb, eq-eqb, eqb-true, ne_eqb}
use Rattle.std.proofs.lemmas.Bool.Decides.{nat_tests}
use Rattle.std.proofs.lemmas.List.Elements.{All-from_recursion, recursion_from_All}
use Rattle.std.proofs.lemmas.List.Sums.{position_or_len_is, sum_by-cons}
use Rattle.std.proofs.lemmas.Result.{IfOk-at_ok}
use Rattle.lit_base.specs.declared.fold.Fold.{Fold}
use Rattle.lit_base.specs.declared.limits.TheConstants.{MAX_LITERALS, MAX_LITERAL_LEN, MAX_LIST_LEN}
use Rattle.lit_base.specs.Folding.{folded, folded_text}
use Rattle.lit_base.specs.Literals.{Literals, IsNormal, literal_cmp}
use Rattle.lit_base.proofs.InsertLemmas.{all_above}
use Rattle.plan_file.specs.declared.fault.Cause.TheVariants.{Literal, Order}
use Rattle.plan_file.specs.declared.fault.Wrong.{Wrong}
use Rattle.plan_file.specs.Reading.{◌>>=◌, wrong_at, number_at, bytes_at, field, folded_len, literal_at, literals_at}
use Rattle.plan_file.specs.Spelling.{literal_text}
use Rattle.plan_file.proofs.FieldLemmas.{AreBytes, Took, took_both, rest_bytes, step, went_on, passed, field_read, field_again, bytes_read, bytes_again, number_read, number_again}

-- ---- folded bytes at the start

-- where the first byte that is not folded stands
pub unfolded_at : (fold : Fold) (text : List ℕ) (i : ℕ) → i < length text → ((k : ℕ) → k < i → folded fold (get_or text k 0) ≡ get_or text k 0) → folded fold (get_or text i 0) ≢ get_or text i 0 → i ≡ folded_len fold text
unfolded_at fold text i inside before here =
    sym (position_or_len_is (λ b. not (eqb (folded fold b) b)) text i 0 (omega (arith, inside)) (λ k lt. ap not (eq-eqb _ _ (before k lt))) (λ _. ap not (ne_eqb _ _ here)))

-- or there is none
pub all_folded : (fold : Fold) (text : List ℕ) → ((k : ℕ) → k < length text → folded fold (get_or text k 0) ≡ get_or text k 0) → length text ≡ folded_len fold text
all_folded fold text all =
    sym (position_or_len_is (λ b. not (eqb (folded fold b) b)) text (length text) 0 (omega arith) (λ k lt. ap not (eq-eqb _ _ (all k lt))) (λ lt. absurd (omega (arith, lt))))

cons_same : {x y : ℕ} {xs ys : List ℕ} → x ≡ y → xs ≡ ys → x ∷ xs ≡ y ∷ ys
cons_same p q = (cc)

heads_same : {x y : ℕ} {xs ys : List ℕ} → x ∷ xs ≡ y ∷ ys → x ≡ y
heads_same e = (cc)

tails_same : {x y : ℕ} {xs ys : List ℕ} → x ∷ xs ≡ y ∷ ys → xs ≡ ys
tails_same e = (cc)

-- a text without a byte that is not folded is its folded text
pub folded_whole : (fold : Fold) (text : List ℕ) → length text ≤ folded_len fold text → folded_text fold text ≡ text
folded_whole fold [] all = refl
folded_whole fold (b ∷ bs) all = step (folded_whole fold bs) (eqb (folded fold b) b) refl
  where
    step : (length bs ≤ folded_len fold bs → folded_text fold bs ≡ bs) → (t : Bool) → eqb (folded fold b) b ≡ t → folded_text fold (b ∷ bs) ≡ b ∷ bs
    step rest true e =
        let here : folded fold b ≡ b = eqb-true _ _ e in
        let len : length bs ≤ folded_len fold bs = omega (arith, subst (λ (t : Bool). suc (length bs) ≤ cond (not (not t)) (1 + folded_len fold bs) 0) e all) in
        cons_same here (rest len)
    step rest false e = absurd (omega (arith, subst (λ (t : Bool). suc (length bs) ≤ cond (not (not t)) (1 + folded_len fold bs) 0) e all))

-- and the other way round
pub folded_len_whole : (fold : Fold) (text : List ℕ) → folded_text fold text ≡ text → length text ≡ folded_len fold text
folded_len_whole fold [] e = refl
folded_len_whole fold (b ∷ bs) e =
    let here : eqb (folded fold b) b ≡ true = eq-eqb _ _ (heads_same e) in
    let rest = folded_len_whole fold bs (tails_same e) in
    rw here (omega (arith, rest))

-- ---- one literal

-- a literal that may follow another one, where there is room for `room` bytes
pub record IsNext (fold : Fold) (room : ℕ) (before text : List ℕ) : Type 0 where
  pub some : 1 ≤ length text
  pub short : length text ≤ MAX_LITERAL_LEN
  pub fits : length text ≤ room
  pub folded : folded_text fold text ≡ text
  pub after : literal_cmp before text ≡ Less

-- the test of a length
abbrev pub in_range : ℕ → ℕ → Bool
in_range room n = leb 1 n && leb n MAX_LITERAL_LEN && leb n room

pub in_range_bounds : (room n : ℕ) → in_range room n ≡ true → (1 ≤ n) × (n ≤ MAX_LITERAL_LEN) × (n ≤ room)
in_range_bounds room n e = (grind (arith, nat_tests), grind (arith, nat_tests), grind (arith, nat_tests))

pub in_range_from : (room n : ℕ) → 1 ≤ n → n ≤ MAX_LITERAL_LEN → n ≤ room → in_range room n ≡ true
in_range_from room n some short fits = grind (arith, nat_tests)

less_from : (o : Ordering) → is_lt o ≡ true → o ≡ Less
less_from Less e = refl
less_from Equal e = (cc)
less_from Greater e = (cc)

-- a literal that was read
record Parts (fold : Fold) (room : ℕ) (before bytes : List ℕ) (x : List ℕ × List ℕ) : Type 0 where
  len : ℕ
  rest : List ℕ
  number : number_at w16 bytes ≡ Ok (len, rest)
  taken : bytes_at len rest ≡ Ok x
  next : IsNext fold room before x.0

parts : (fold : Fold) (room : ℕ) (before bytes : List ℕ) (x : List ℕ × List ℕ) → literal_at fold room before bytes ≡ Ok x → Parts fold room before bytes x
unfolding literal_at
parts fold room before bytes x e =
    let tested : List ℕ → List ℕ × List ℕ → Result (List ℕ × List ℕ) Wrong = λ rest text.
    cond (ltb (folded_len fold text.0) (length text.0)) (Err (wrong_at Literal (drop (folded_len fold text.0) rest)))
    (cond (is_lt (literal_cmp before text.0)) (Ok text) (Err (wrong_at Order bytes))) in
    let a = step (field bytes (in_range room) Literal (number_at w16 bytes)) (λ len. bytes_at len.0 len.1 >>= tested len.1) x e in
    let f = field_read bytes (in_range room) Literal (number_at w16 bytes) a.value a.first in
    let len = a.value.0 in
    let rest = a.value.1 in
    let b = step (bytes_at len rest) (tested rest) x a.second in
    let text = b.value.0 in
    let whole = went_on (ltb (folded_len fold text) (length text)) (wrong_at Literal (drop (folded_len fold text) rest)) (cond (is_lt (literal_cmp before text)) (Ok b.value) (Err (wrong_at Order bytes))) x b.second in
    let above = passed (is_lt (literal_cmp before text)) (Ok b.value) (wrong_at Order bytes) x whole.1 in
    let size = (bytes_read len rest b.value b.first).1 in
    let range = in_range_bounds room len f.1 in
    IfOk-at_ok (Parts fold room before bytes) above.1 (record {
      len = len;
      rest = rest;
      number = f.0;
      taken = b.first;
      next = record {
        some = omega (arith, size, range.0);
        short = omega (arith, size, range.1);
        fits = omega (arith, size, range.2);
        folded = folded_whole fold text (ltb-false _ _ whole.0);
        after = less_from (literal_cmp before text) above.0;
      };
    })

-- a literal that was read may follow the one before it
pub literal_next : (fold : Fold) (room : ℕ) (before bytes : List ℕ) (x : List ℕ × List ℕ) → literal_at fold room before bytes ≡ Ok x → IsNext fold room before x.0
literal_next fold room before bytes x e = (parts fold room before bytes x e).next

-- its length and its bytes stand at the start
pub literal_read : (fold : Fold) (room : ℕ) (before bytes : List ℕ) (x : List ℕ × List ℕ) → AreBytes bytes → literal_at fold room before bytes ≡ Ok x → Took bytes (literal_text x.0) x.1
literal_read fold room before bytes x are e =
    let p = parts fold room before bytes x e in
    let number = number_read w16 tt bytes (p.len, p.rest) are p.number in
    let text = bytes_read p.len p.rest x p.taken in
    subst (λ (k : ℕ). Took bytes (to_be_bytes w16 k ++ x.0) x.1) (sym text.1) (took_both (to_be_bytes w16 p.len) x.0 x.1 number.0 text.0)

pub literal_again : (fold : Fold) (room : ℕ) (before text rest : List ℕ) → IsNext fold room before text → literal_at fold room before (literal_text text ++ rest) ≡ Ok (text, rest)
unfolding literal_at
literal_again fold room before text rest next =
    let bytes = literal_text text ++ rest in
    let small : length text < 2 ^ 16 = omega (arith, next.short) in
    let regrouped : bytes ≡ to_be_bytes w16 (length text) ++ (text ++ rest) = append_assoc (to_be_bytes w16 (length text)) text rest in
    let number : number_at w16 bytes ≡ Ok (length text, text ++ rest) = ap (number_at w16) regrouped ∙ number_again w16 tt (length text) (text ++ rest) small in
    let len = field_again bytes (in_range room) Literal (number_at w16 bytes) (length text, text ++ rest) number (in_range_from room (length text) next.some next.short next.fits) in
    let whole : ltb (folded_len fold text) (length text) ≡ false = le-ltb _ _ (omega (arith, folded_len_whole fold text next.folded)) in
    rw (len, bytes_again text rest, whole, next.after) refl

-- ---- literals one after the other

-- each may follow the one before it
abbrev pub Follow : Fold → ℕ → List ℕ → List (List ℕ) → Type 0
Follow fold room before [] = Unit {0}
Follow fold room before (t ∷ ts) = IsNext fold room before t × Follow fold (room - length t) t ts

pub literals_follow : (fold : Fold) (n room : ℕ) (before bytes : List ℕ) (x : List (List ℕ) × List ℕ) → literals_at fold n room before bytes ≡ Ok x → (length x.0 ≡ n) × Follow fold room before x.0
unfolding literals_at
literals_follow fold zero room before bytes x e = IfOk-at_ok (λ y. (length y.0 ≡ 0) × Follow fold room before y.0) e (refl, tt)
literals_follow fold (suc n) room before bytes x e =
    let a = step (literal_at fold room before bytes) (λ first. literals_at fold n (room - length first.0) first.0 first.1 >>= λ others. Ok (first.0 ∷ others.0, others.1)) x e in
    let first = a.value in
    let b = step (literals_at fold n (room - length first.0) first.0 first.1) (λ others. Ok (first.0 ∷ others.0, others.1)) x a.second in
    let others = literals_follow fold n (room - length first.0) first.0 first.1 b.value b.first in
    IfOk-at_ok (λ y. (length y.0 ≡ suc n) × Follow fold room before y.0) {r = Ok (first.0 ∷ b.value.0, b.value.1)} b.second (omega (arith, others.0), (literal_next fold room before bytes first a.first, others.1))

-- their spellings stand at the start
pub literals_read : (fold : Fold) (n room : ℕ) (before bytes : List ℕ) (x : List (List ℕ) × List ℕ) → AreBytes bytes → literals_at fold n room before bytes ≡ Ok x → Took bytes (flat_map literal_text x.0) x.1
unfolding literals_at
literals_read fold zero room before bytes x are e = IfOk-at_ok (λ y. Took bytes (flat_map literal_text y.0) y.1) e refl
literals_read fold (suc n) room before bytes x are e =
    let a = step (literal_at fold room before bytes) (λ first. literals_at fold n (room - length first.0) first.0 first.1 >>= λ others. Ok (first.0 ∷ others.0, others.1)) x e in
    let first = a.value in
    let b = step (literals_at fold n (room - length first.0) first.0 first.1) (λ others. Ok (first.0 ∷ others.0, others.1)) x a.second in
    let took = literal_read fold room before bytes first are a.first in
    let others = literals_read fold n (room - length first.0) first.0 first.1 b.value (rest_bytes (literal_text first.0) first.1 took are) b.first in
    IfOk-at_ok (λ y. Took bytes (flat_map literal_text y.0) y.1) {r = Ok (first.0 ∷ b.value.0, b.value.1)} b.second (took_both (literal_text first.0) (flat_map literal_text b.value.0) b.value.1 took others)

pub literals_again : (fold : Fold) (room : ℕ) (before : List ℕ) (texts : List (List ℕ)) (rest : List ℕ) → Follow fold room before texts → literals_at fold (length texts) room before (flat_map literal_text texts ++ rest) ≡ Ok (texts, rest)
unfolding literals_at
literals_again fold room before [] rest follow = refl
literals_again fold room before (t ∷ ts) rest follow =
    let regrouped : flat_map literal_text (t ∷ ts) ++ rest ≡ literal_text t ++ (flat_map literal_text ts ++ rest) = append_assoc (literal_text t) (flat_map literal_text ts) rest in
    ap (literals_at fold (suc (length ts)) room before) regrouped
    ∙ rw (literal_again fold room before t (flat_map literal_text ts ++ rest) follow.0, literals_again fold (room - length t) t ts rest follow.1) refl

-- ---- normal form

-- what holds of each that may follow another holds of all
each : (fold : Fold) (P : List ℕ → Type 0) → ((room : ℕ) (before t : List ℕ) → IsNext fold room before t → P t) → (room : ℕ) (before : List ℕ) (ts : List (List ℕ)) → Follow fold room before ts → AllByRecursion P ts
each fold P gives room before [] follow = tt
each fold P gives room before (t ∷ ts) follow = (gives room before t follow.0, each fold P gives (room - length t) t ts follow.1)

-- they rise
rising : (fold : Fold) (room : ℕ) (before : List ℕ) (ts : List (List ℕ)) → Follow fold room before ts → IsStrictlySortedBy literal_cmp (before ∷ ts)
unfolding IsStrictlySortedBy
rising fold room before [] follow = (tt, tt)
rising fold room before (t ∷ ts) follow =
    let rest = rising fold (room - length t) t ts follow.1 in
    ((follow.0.after, all_above before t ts follow.0.after rest.0), rest)

rising_tail : (t : List ℕ) (ts : List (List ℕ)) → IsStrictlySortedBy literal_cmp (t ∷ ts) → IsStrictlySortedBy literal_cmp ts
unfolding IsStrictlySortedBy
rising_tail t ts h = h.1

-- they leave room
total_len : (fold : Fold) (room : ℕ) (before : List ℕ) (ts : List (List ℕ)) → Follow fold room before ts → sum_by length ts ≤ room
total_len fold room before [] follow = omega arith
total_len fold room before (t ∷ ts) follow = omega (arith, total_len fold (room - length t) t ts follow.1, follow.0.fits, sum_by-cons {X = List ℕ} length t ts)

-- literals that follow each other are in normal form
pub normal_from : (fold : Fold) (ts : List (List ℕ)) → length ts ≤ MAX_LITERALS → Follow fold MAX_LIST_LEN [] ts → IsNormal (record { folding = fold; texts = ts })
normal_from fold ts few follow = record {
  rising = rising_tail [] ts (rising fold MAX_LIST_LEN [] ts follow);
  nonempty = All-from_recursion (λ t. 0 < length t) ts (each fold (λ t. 0 < length t) (λ room before t next. next.some) MAX_LIST_LEN [] ts follow);
  folded = All-from_recursion (λ t. folded_text fold t ≡ t) ts (each fold (λ t. folded_text fold t ≡ t) (λ room before t next. next.folded) MAX_LIST_LEN [] ts follow);
  short = All-from_recursion (λ t. length t ≤ MAX_LITERAL_LEN) ts (each fold (λ t. length t ≤ MAX_LITERAL_LEN) (λ room before t next. next.short) MAX_LIST_LEN [] ts follow);
  few = few;
  small = total_len fold MAX_LIST_LEN [] ts follow;
}

-- the null text is before each literal
null_before : (t : List ℕ) → 0 < length t → literal_cmp [] t ≡ Less
null_before [] some = absurd (omega arith)
null_before (b ∷ bs) some = grind (arith, nat_tests)

null_before_all : (ts : List (List ℕ)) → AllByRecursion (λ t. 0 < length t) ts → AllByRecursion (λ t. literal_cmp [] t ≡ Less) ts
null_before_all [] all = tt
null_before_all (t ∷ ts) all = (null_before t all.0, null_before_all ts all.1)

-- rising literals follow each other
follow_from : (fold : Fold) (room : ℕ) (before : List ℕ) (ts : List (List ℕ)) → AllByRecursion (λ t. 0 < length t) ts → AllByRecursion (λ t. folded_text fold t ≡ t) ts → AllByRecursion (λ t. length t ≤ MAX_LITERAL_LEN) ts → sum_by length ts ≤ room
    → AllByRecursion (λ t. literal_cmp before t ≡ Less) ts → IsStrictlySortedBy literal_cmp ts → Follow fold room before ts
unfolding IsStrictlySortedBy
follow_from fold room before [] some folded short small above sorted = tt
follow_from fold room before (t ∷ ts) some folded short small above sorted =
    let len = sum_by-cons {X = List ℕ} length t ts in (
      record { some = some.0; short = short.0; fits = omega (arith, len, small); folded = folded.0; after = above.0 },
      follow_from fold (room - length t) t ts some.1 folded.1 short.1 (omega (arith, len, small)) sorted.0 sorted.1,
    )

-- literals in normal form follow each other
pub follow_normal : (l : Literals) → IsNormal l → Follow l.folding MAX_LIST_LEN [] l.texts
follow_normal l normal =
    let some = recursion_from_All (λ t. 0 < length t) l.texts normal.nonempty in
    follow_from l.folding MAX_LIST_LEN [] l.texts some (recursion_from_All (λ t. folded_text l.folding t ≡ t) l.texts normal.folded) (recursion_from_All (λ t. length t ≤ MAX_LITERAL_LEN) l.texts normal.short) normal.small (null_before_all l.texts some) normal.rising
