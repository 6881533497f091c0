-- The normal form of a pattern list: it is in order, has exactly the folded patterns, and keeps their limits.
use Rattle.std.proofs.Common.{◌≡◌, ◌≢◌, ℕ, ◌+◌, ◌<◌, ◌≤◌, List, [], ◌∷◌, ◌++◌, length, get_or, map, sum_by, fold, All, Contains, ◌⊎◌, inl, inr, refl, sym, ap, ◌∙◌, subst, arith, append_assoc}
use Rattle.std.proofs.lemmas.List.{length-map, append-nil, get_or-map, map-append}
use Rattle.std.proofs.lemmas.List.Elements.{All-nil, Contains-append_left, Contains-push, Contains-push_cases}
use Rattle.std.proofs.lemmas.List.Sums.{sum_by-cons}
use Rattle.std.proofs.lemmas.Map.Views.{All-insert_key}
use Rattle.std.proofs.lemmas.Bool.Decides.{nat_tests}
use Rattle.std.specs.BTreeSet.{insert_key}
use Rattle.std.specs.List.{AllByRecursion}
use Rattle.std.specs.List.Sorted.{IsStrictlySortedBy}
use Rattle.std.proofs.lemmas.List.Elements.{recursion_from_All}
use Rattle.lit_base.specs.declared.fold.Fold.{Fold}
use Rattle.lit_base.specs.declared.fold.Fold.TheVariants.{No, Ascii}
use Rattle.lit_base.specs.Folding.{folded, folded_text}
use Rattle.lit_base.specs.Literals.{literal_cmp, IsNormal}
use Rattle.lit_base.specs.NormalForm.{IsNormalForm, with_pattern, normal_form}
use Rattle.lit_base.specs.RawLists.{IsWithinLimits}
use Rattle.lit_base.specs.declared.limits.TheConstants.{MAX_LITERALS, MAX_LITERAL_LEN, MAX_LIST_LEN}
use Rattle.lit_base.proofs.Members.{In, in_from_contains, contains_from_in}
use Rattle.lit_base.proofs.SortedLists.{same_elements}
use Rattle.lit_base.proofs.InsertLemmas.{literal_total, rising-insert, in_insert_cases, in_insert_old, in_insert_new, sum_by-insert-le, length-insert-le}

-- the literals of the patterns seen so far: in order, and exactly the nonempty folded patterns
record Holds (folding : Fold) (seen texts : List (List ℕ)) : Type 0 where
  rising : IsStrictlySortedBy literal_cmp texts
  only : (t : List ℕ) → In t texts → (0 < length t) × Contains (map (folded_text folding) seen) t
  every : (t : List ℕ) → 0 < length t → Contains (map (folded_text folding) seen) t → In t texts

-- one more pattern
pushed : (folding : Fold) (seen : List (List ℕ)) (p t : List ℕ) → Contains (map (folded_text folding) (seen ++ p ∷ [])) t → Contains (map (folded_text folding) seen) t ⊎ (folded_text folding p ≡ t)
pushed folding seen p t h = Contains-push_cases (map (folded_text folding) seen) (folded_text folding p) t (subst (λ ts. Contains ts t) (map-append (folded_text folding) seen (p ∷ [])) h)

still : (folding : Fold) (seen : List (List ℕ)) (p t : List ℕ) → Contains (map (folded_text folding) seen) t → Contains (map (folded_text folding) (seen ++ p ∷ [])) t
still folding seen p t h = subst (λ ts. Contains ts t) (sym (map-append (folded_text folding) seen (p ∷ []))) (Contains-append_left (map (folded_text folding) seen) (folded_text folding p ∷ []) t h)

last_one : (folding : Fold) (seen : List (List ℕ)) (p : List ℕ) → Contains (map (folded_text folding) (seen ++ p ∷ [])) (folded_text folding p)
last_one folding seen p = subst (λ ts. Contains ts (folded_text folding p)) (sym (map-append (folded_text folding) seen (p ∷ []))) (Contains-push (map (folded_text folding) seen) (folded_text folding p))

holds_more : (folding : Fold) (seen texts : List (List ℕ)) (p : List ℕ) → Holds folding seen texts → Holds folding (seen ++ p ∷ []) (with_pattern folding texts p)
holds_more folding seen texts [] h = record {
  rising = h.rising;
  only = λ t there. ((h.only t there).0, still folding seen [] t (h.only t there).1);
  every = λ t some there. elim (pushed folding seen [] t there) [
    | inl old ↦ h.every t some old
    | inr null ↦ let none : length t ≡ 0 = ap length (sym null) in absurd (omega (arith, none, some))
  ];
}
holds_more folding seen texts (b ∷ bs) h =
    let k : List ℕ = folded_text folding (b ∷ bs) in
    record {
      rising = rising-insert texts k h.rising;
      only = λ t there. elim (in_insert_cases t texts k there) [
        | inl old ↦ ((h.only t old).0, still folding seen (b ∷ bs) t (h.only t old).1)
        | inr new ↦ (subst (λ u. 0 < length u) new (omega arith), subst (Contains (map (folded_text folding) (seen ++ (b ∷ bs) ∷ []))) new (last_one folding seen (b ∷ bs)))
      ];
      every = λ t some there. elim (pushed folding seen (b ∷ bs) t there) [
        | inl old ↦ in_insert_old t texts k (h.every t some old)
        | inr new ↦ subst (λ u. In u (insert_key literal_cmp texts k)) new (in_insert_new texts k)
      ];
    }

holds_all : (folding : Fold) (seen texts patterns : List (List ℕ)) → Holds folding seen texts → Holds folding (seen ++ patterns) (fold (with_pattern folding) texts patterns)
holds_all folding seen texts [] h = subst (λ ps. Holds folding ps texts) (sym (append-nil seen)) h
holds_all folding seen texts (p ∷ ps) h =
    subst (λ qs. Holds folding qs (fold (with_pattern folding) (with_pattern folding texts p) ps)) (append_assoc seen (p ∷ []) ps)
    (holds_all folding (seen ++ p ∷ []) (with_pattern folding texts p) ps (holds_more folding seen texts p h))

holds_none : (folding : Fold) → Holds folding [] []
unfolding IsStrictlySortedBy
holds_none folding = record { rising = tt; only = λ t there. absurd there; every = λ t some there. absurd (omega (arith, there.1)) }

-- the normal form is a list in normal form
pub normal_form_is : (folding : Fold) (patterns : List (List ℕ)) → IsNormalForm folding patterns (normal_form folding patterns)
unfolding normal_form
normal_form_is folding patterns =
    let h : Holds folding patterns (fold (with_pattern folding) [] patterns) = holds_all folding [] [] patterns (holds_none folding) in
    record {
      rising = h.rising;
      members = λ t. (
        λ there. h.only t (in_from_contains t (fold (with_pattern folding) [] patterns) there),
        λ w. contains_from_in t (fold (with_pattern folding) [] patterns) (h.every t w.0 w.1),
      );
    }

-- what holds of each nonempty pattern's folded text holds of all literals
all_literals : (folding : Fold) (P Q : List ℕ → Type 0) → ((b : ℕ) (bs : List ℕ) → Q (b ∷ bs) → P (folded_text folding (b ∷ bs)))
    → (texts patterns : List (List ℕ)) → AllByRecursion Q patterns → All P texts → All P (fold (with_pattern folding) texts patterns)
all_literals folding P Q gives texts [] qs all = all
all_literals folding P Q gives texts ([] ∷ ps) qs all = all_literals folding P Q gives texts ps qs.1 all
all_literals folding P Q gives texts ((b ∷ bs) ∷ ps) qs all =
    all_literals folding P Q gives (insert_key literal_cmp texts (folded_text folding (b ∷ bs))) ps qs.1
    (All-insert_key literal_cmp (folded_text folding (b ∷ bs)) P texts all (gives b bs qs.0))

-- a byte that was folded stays
folded-folded : (folding : Fold) (b : ℕ) → folded folding (folded folding b) ≡ folded folding b
folded-folded No b = refl
folded-folded Ascii b = grind (arith, nat_tests)

pub folded_text-folded_text : (folding : Fold) (text : List ℕ) → folded_text folding (folded_text folding text) ≡ folded_text folding text
folded_text-folded_text folding [] = refl
folded_text-folded_text folding (b ∷ bs) = cons_same (folded-folded folding b) (folded_text-folded_text folding bs)
  where
    cons_same : {x y : ℕ} {xs ys : List ℕ} → x ≡ y → xs ≡ ys → x ∷ xs ≡ y ∷ ys
    cons_same p q = (cc)

-- the literals have no more bytes in all than the patterns
small : (folding : Fold) (texts patterns : List (List ℕ)) → sum_by length (fold (with_pattern folding) texts patterns) ≤ sum_by length texts + sum_by length patterns
small folding texts [] = omega arith
small folding texts ([] ∷ ps) = omega (arith, small folding texts ps, sum_by-cons {X = List ℕ} length [] ps)
small folding texts ((b ∷ bs) ∷ ps) =
    let k : List ℕ = folded_text folding (b ∷ bs) in
    omega (arith, small folding (insert_key literal_cmp texts k) ps, sum_by-insert-le texts k, length-map (b ∷ bs) (folded folding), sum_by-cons {X = List ℕ} length (b ∷ bs) ps)

-- nor are there more literals than patterns
fewer : (folding : Fold) (texts patterns : List (List ℕ)) → length (fold (with_pattern folding) texts patterns) ≤ length texts + length patterns
fewer folding texts [] = omega arith
fewer folding texts ([] ∷ ps) = omega (arith, fewer folding texts ps)
fewer folding texts ((b ∷ bs) ∷ ps) =
    let k : List ℕ = folded_text folding (b ∷ bs) in
    omega (arith, fewer folding (insert_key literal_cmp texts k) ps, length-insert-le texts k)

pub normal_form-few : (folding : Fold) (patterns : List (List ℕ)) → length (normal_form folding patterns) ≤ length patterns
unfolding normal_form
normal_form-few folding patterns = omega (arith, fewer folding [] patterns)

-- any list holds what always holds
always : (ps : List (List ℕ)) → AllByRecursion (λ _. Unit {0}) ps
always [] = tt
always (p ∷ ps) = (tt, always ps)

-- the normal form of a raw list may stand in a `LitList`, unless it is too long
pub is_normal : (folding : Fold) (patterns texts : List (List ℕ)) → texts ≡ normal_form folding patterns → IsWithinLimits patterns → length texts ≤ MAX_LITERALS → IsNormal (record { folding = folding; texts = texts })
unfolding normal_form
is_normal folding patterns texts is within few =
    let form : IsNormalForm folding patterns texts = subst (IsNormalForm folding patterns) (sym is) (normal_form_is folding patterns) in
    let same : fold (with_pattern folding) [] patterns ≡ texts = sym is in
    record {
      rising = form.rising;
      nonempty = subst (All (λ t. 0 < length t)) same (all_literals folding (λ t. 0 < length t) (λ _. Unit {0}) (λ b bs _. omega arith) [] patterns (always patterns) (All-nil (λ t. 0 < length t)));
      folded = subst (All (λ t. folded_text folding t ≡ t)) same (all_literals folding (λ t. folded_text folding t ≡ t) (λ _. Unit {0}) (λ b bs _. folded_text-folded_text folding (b ∷ bs)) [] patterns (always patterns) (All-nil (λ t. folded_text folding t ≡ t)));
      short = subst (All (λ t. length t ≤ MAX_LITERAL_LEN)) same (all_literals folding (λ t. length t ≤ MAX_LITERAL_LEN) (λ p. length p ≤ MAX_LITERAL_LEN) (λ b bs h. omega (arith, h, length-map (b ∷ bs) (folded folding))) [] patterns (recursion_from_All (λ p. length p ≤ MAX_LITERAL_LEN) patterns within.short) (All-nil (λ t. length t ≤ MAX_LITERAL_LEN)));
      few = few;
      small = subst (λ ts. sum_by length ts ≤ MAX_LIST_LEN) same (omega (arith, small folding [] patterns, within.small));
    }

-- the literal of a pattern that is not null is there
pub literal_is_there : (folding : Fold) (patterns texts : List (List ℕ)) (p : List ℕ) (i : ℕ) → i < length patterns → p ≡ get_or patterns i p → texts ≡ normal_form folding patterns → p ≢ [] → Contains texts (folded_text folding p)
literal_is_there folding patterns texts p i inside at is some =
    let form : IsNormalForm folding patterns texts = subst (IsNormalForm folding patterns) (sym is) (normal_form_is folding patterns) in
    let here : get_or (map (folded_text folding) patterns) i (folded_text folding p) ≡ folded_text folding p =
    get_or-map (folded_text folding) patterns i p (folded_text folding p) inside ∙ sym (ap (folded_text folding) at) in
    (form.members (folded_text folding p)).1 (positive p some, (i, omega (arith, inside, length-map patterns (folded_text folding)), here))
  where
    positive : (q : List ℕ) → q ≢ [] → 0 < length (folded_text folding q)
    positive [] h = absurd (h refl)
    positive (b ∷ bs) h = omega arith

-- no other list is in normal form
pub normal_form_only : (folding : Fold) (patterns texts : List (List ℕ)) → IsNormalForm folding patterns texts → texts ≡ normal_form folding patterns
normal_form_only folding patterns texts form =
    let is = normal_form_is folding patterns in
    same_elements literal_cmp literal_total texts (normal_form folding patterns) form.rising is.rising
    (λ t h. (is.members t).1 ((form.members t).0 h)) (λ t h. (form.members t).1 ((is.members t).0 h))
