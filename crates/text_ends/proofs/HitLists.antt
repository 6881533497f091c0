-- Lists of hits: in their order, of a text, and joined.
use Rattle.std.proofs.Common.{◌≡◌, ℕ, ◌+◌, ◌-◌, ◌<◌, ◌≤◌, List, [], ◌∷◌, ◌++◌, length, take, drop, Contains, ◌↔◌, inl, inr, refl, sym, ap, ◌∙◌, subst, arith}
use Rattle.std.specs.declared.cmp.Ordering.TheVariants.{Less, Equal}
use Rattle.std.specs.declared.cmp.Ordering.{Ordering}
use Rattle.std.specs.Cmp.{nat_cmp_is}
use Rattle.std.specs.Ordering.{nat_cmp, ordering_then}
use Rattle.std.specs.List.Sorted.{IsStrictlySortedBy}
use Rattle.std.proofs.lemmas.Bool.{cases_lt}
use Rattle.std.proofs.lemmas.List.{append_assoc, length-append, length-take, take-append-drop, take-take}
use Rattle.std.proofs.lemmas.List.Elements.{All-from_recursion, recursion_from_All, All-append, Contains-get_or, Contains-append_left, Contains-append_right, Contains-append_cases, Contains-push, Contains-push_cases}
use Rattle.lit_base.specs.Literals.{Literals}
use Rattle.lit_base.specs.Occurrences.{IsFirstEnding, NoneEnds, Occurs, hit_cmp}
use Rattle.lit_base.specs.Occurrences.{HasEnd}
use Rattle.lit_base.specs.NextEnds.{NoEndAfter}
use Rattle.text_ends.specs.HitsAt.{AreHitsAt}
use Rattle.text_ends.specs.HitsAfter.{AreHitsAfter}
use Rattle.text_ends.proofs.Occurring.{occurs_in_prefix, occurs_of_prefix}

-- two lists in strict order are one where each element of the first is below each of the second
sorted_joined : {K : Type 0} (R : K → K → Ordering) (xs ys : List K) → IsStrictlySortedBy R xs → IsStrictlySortedBy R ys → ((x y : K) → Contains xs x → Contains ys y → R x y ≡ Less) → IsStrictlySortedBy R (xs ++ ys)
unfolding IsStrictlySortedBy
sorted_joined R [] ys s t below = t
sorted_joined R (x ∷ xs) ys s t below = (
  recursion_from_All (λ y. R x y ≡ Less) (xs ++ ys)
      (All-append (λ y. R x y ≡ Less) xs ys (All-from_recursion (λ y. R x y ≡ Less) xs s.0)
      (λ k d within. below x _ (0, omega arith, refl) (Contains-get_or ys k d within))),
  sorted_joined R xs ys s.1 t (λ z y inside there. below z y (Contains-append_right (x ∷ []) xs z inside) there),
)

-- a hit with an earlier end is below a hit with a later end
earlier_below : (h i : ℕ × ℕ) → h.1 < i.1 → hit_cmp h i ≡ Less
earlier_below h i earlier = ap (λ o. ordering_then o (nat_cmp h.0 i.0)) (sym (nat_cmp_is h.1 i.1 Less earlier))

-- an occurrence at an end that is written otherwise
at_end : (l : Literals) (text : List ℕ) (place e f : ℕ) → e ≡ f → Occurs l text place e → Occurs l text place f
at_end l text place e f same o = subst (λ x. Occurs l text place x) same o

-- an occurrence in a prefix is an occurrence in the text; an occurrence in the text that ends in the prefix is one in
-- the prefix
from_prefix : (l : Literals) (text : List ℕ) (m place e : ℕ) → Occurs l (take m text) place e → Occurs l text place e
from_prefix l text m place e o = subst (λ t. Occurs l t place e) (take-append-drop m text) (occurs_of_prefix l (take m text) (drop m text) place e o)

to_prefix : (l : Literals) (text : List ℕ) (m place e : ℕ) → e ≤ length (take m text) → Occurs l text place e → Occurs l (take m text) place e
to_prefix l text m place e within o =
    occurs_in_prefix l (take m text) (drop m text) place e within (subst (λ t. Occurs l t place e) (sym (take-append-drop m text)) o)

-- the hits up to a position of a text and those after it are all hits
pub hits_joined : (l : Literals) (text : List ℕ) (from m at : ℕ) (found rest : List (ℕ × ℕ)) → from ≤ m → m ≤ length text → AreHitsAfter l (take m text) from at found → AreHitsAfter l text m (at + (m - from)) rest → AreHitsAfter l text from at (found ++ rest)
hits_joined l text from m at found rest starts within early late = record {
  rising = sorted_joined hit_cmp found rest early.rising late.rising
      (λ h i inside there.
      let before = (early.members h.0 h.1).0 inside in
      let after = (late.members i.0 i.1).0 there in
      earlier_below h i (omega (arith, before.0, before.1.ends, after.0, length-take m text)));
  members = λ place end. (
    λ inside. elim (Contains-append_cases found rest (place, end) inside) [
      | inl here ↦ let w = (early.members place end).0 here in (w.0, from_prefix l text m place (from + (end - at)) w.1)
      | inr here ↦ let w = (late.members place end).0 here in
          (omega (arith, w.0), at_end l text place (m + (end - (at + (m - from)))) (from + (end - at)) (omega (arith, w.0)) w.1)
    ],
    λ w. elim (cases_lt m (from + (end - at))) [
      | inl later ↦ Contains-append_right found rest (place, end)
          ((late.members place end).1 (omega (arith, later, w.0), at_end l text place (from + (end - at)) (m + (end - (at + (m - from)))) (omega (arith, later, w.0)) w.1))
      | inr sooner ↦ Contains-append_left found rest (place, end)
          ((early.members place end).1 (w.0, to_prefix l text m place (from + (end - at)) (omega (arith, sooner, length-take m text)) w.1))
    ],
  );
}

-- where nothing ends there are no hits
pub hits_none : (l : Literals) (text : List ℕ) (from at : ℕ) → NoEndAfter l text from → AreHitsAfter l text from at []
unfolding IsStrictlySortedBy
hits_none l text from at none = record {
  rising = tt;
  members = λ place end. (λ inside. absurd (omega (arith, inside.1)), λ w. absurd (none (from + (end - at)) (omega (arith, w.0)) (place, w.1)));
}

-- nothing ends past a text
pub none_past : (l : Literals) (text : List ℕ) (from : ℕ) → length text ≤ from → NoEndAfter l text from
none_past l text from past = λ end after here. omega (arith, after, here.1.ends)

-- where nothing ends in a text after a position, nothing ends in a prefix of it after a later position
pub none_in_prefix : (l : Literals) (text : List ℕ) (from m stop : ℕ) → from ≤ m → NoEndAfter l text from → NoEndAfter l (take stop text) m
none_in_prefix l text from m stop further none = λ end after here. none end (omega (arith, after, further)) (here.0, from_prefix l text stop here.0 end here.1)

-- the hits at a position of the text, where nothing ends between another position and it
pub hits_here : (l : Literals) (text : List ℕ) (m end at : ℕ) (here : List (ℕ × ℕ)) → m < end → end ≤ length text → ((other : ℕ) → m < other → other < end → ¬ HasEnd l text other) → AreHitsAt l text end (at + (end - m)) here → AreHitsAfter l (take end text) m at here
hits_here l text m end at here after within first hits = record {
  rising = hits.rising;
  members = λ place position. (
    λ inside. let w = (hits.members place position).0 inside in
        (omega (arith, w.0, after), to_prefix l text end place (m + (position - at)) (omega (arith, w.0, after, length-take end text)) (at_end l text place end (m + (position - at)) (omega (arith, w.0, after)) w.1)),
    λ w. let o : Occurs l text place (m + (position - at)) = from_prefix l text end place (m + (position - at)) w.1 in
        let most : m + (position - at) ≤ end = omega (arith, w.1.ends, length-take end text) in
        elim (cases_lt (m + (position - at)) end) [
          | inl sooner ↦ absurd (first (m + (position - at)) (omega (arith, w.0)) sooner (place, o))
          | inr there ↦ (hits.members place position).1 (omega (arith, w.0, there, most), at_end l text place (m + (position - at)) end (omega (arith, there, most)) o)
        ],
  );
}

-- the hits up to a position, and those at the next end, are the hits up to there
pub hits_further : (l : Literals) (text : List ℕ) (from m end at : ℕ) (found here : List (ℕ × ℕ)) → from ≤ m → m < end → end ≤ length text → ((other : ℕ) → m < other → other < end → ¬ HasEnd l text other) → AreHitsAfter l (take m text) from at found → AreHitsAt l text end (at + (end - from)) here → AreHitsAfter l (take end text) from at (found ++ here)
hits_further l text from m end at found here starts after within first early hits =
    let same : at + (end - from) ≡ at + (m - from) + (end - m) = omega (arith, starts, after) in
    let prefix : take m (take end text) ≡ take m text = take-take m end text (omega (arith, after)) in
    hits_joined l (take end text) from m at found here starts (omega (arith, length-take end text, after, within))
    (subst (λ t. AreHitsAfter l t from at found) (sym prefix) early)
    (hits_here l text m end (at + (m - from)) here after within first (subst (λ x. AreHitsAt l text end x here) same hits))

-- of two hits that end together, the hit of the earlier literal is below the other
lower_below : (h i : ℕ × ℕ) → h.1 ≡ i.1 → h.0 < i.0 → hit_cmp h i ≡ Less
lower_below h i together lower =
    ap (λ o. ordering_then o (nat_cmp h.0 i.0)) (sym (nat_cmp_is h.1 i.1 Equal together)) ∙ sym (nat_cmp_is h.0 i.0 Less lower)

-- the elements of a list of one
only_one : (h i : ℕ × ℕ) → Contains (h ∷ []) i → h ≡ i
only_one h i inside = elim (Contains-push_cases [] h i inside) [ inl none ↦ absurd (omega (arith, none.1)) | inr same ↦ same ]

-- the hits at one position of the text, which counts as `at`, of the literals before a place of the list
pub record AreHitsAtBefore (l : Literals) (text : List ℕ) (end at limit : ℕ) (found : List (ℕ × ℕ)) : Type 0 where
  pub rising : IsStrictlySortedBy hit_cmp found
  pub members : (place position : ℕ) → Contains found (place, position) ↔ ((position ≡ at) × (place < limit) × Occurs l text place end)

pub hits_at_none : (l : Literals) (text : List ℕ) (end at : ℕ) → AreHitsAtBefore l text end at 0 []
unfolding IsStrictlySortedBy
hits_at_none l text end at = record {
  rising = tt;
  members = λ place position. (λ inside. absurd (omega (arith, inside.1)), λ w. absurd (omega (arith, w.1)));
}

-- the next literal that ends there gives one more
pub hits_at_more : (l : Literals) (text : List ℕ) (end at from place : ℕ) (found : List (ℕ × ℕ)) → AreHitsAtBefore l text end at from found → IsFirstEnding l text from end place → AreHitsAtBefore l text end at (place + 1) (found ++ (place, at) ∷ [])
unfolding IsStrictlySortedBy
hits_at_more l text end at from place found early next = record {
  rising = sorted_joined hit_cmp found ((place, at) ∷ []) early.rising (tt, tt)
      (λ h i inside there.
      let before = (early.members h.0 h.1).0 inside in
      let same : (place, at) ≡ i = only_one (place, at) i there in
      subst (λ x. hit_cmp h x ≡ Less) same (lower_below h (place, at) before.0 (omega (arith, before.1, next.counted))));
  members = λ other position. (
    λ inside. elim (Contains-push_cases found (place, at) (other, position) inside) [
      | inl here ↦ let w = (early.members other position).0 here in (w.0, omega (arith, w.1, next.counted), w.2)
      | inr same ↦ let p : place ≡ other = ap (λ h. h.0) same in
          (sym (ap (λ h. h.1) same), omega (arith, p), subst (λ k. Occurs l text k end) p next.occurs)
    ],
    λ w. elim (cases_lt other from) [
      | inl sooner ↦ Contains-append_left found ((place, at) ∷ []) (other, position) ((early.members other position).1 (w.0, sooner, w.2))
      | inr later ↦ elim (cases_lt other place) [
        | inl between ↦ absurd (next.first other later between w.2)
        | inr there ↦
            let p : place ≡ other = omega (arith, w.1, there) in
            let same : at ≡ position = sym w.0 in
            subst (Contains (found ++ (place, at) ∷ [])) (λ k. (p k, same k)) (Contains-push found (place, at))
      ]
    ],
  );
}

-- and where no other ends there, these are all
pub hits_at_ended : (l : Literals) (text : List ℕ) (end at limit : ℕ) (found : List (ℕ × ℕ)) → AreHitsAtBefore l text end at limit found → NoneEnds l text limit end → AreHitsAt l text end at found
hits_at_ended l text end at limit found early none = record {
  rising = early.rising;
  members = λ place position. (
    λ inside. let w = (early.members place position).0 inside in (w.0, w.2),
    λ w. elim (cases_lt place limit) [
      | inl sooner ↦ (early.members place position).1 (w.0, sooner, w.1)
      | inr later ↦ absurd (none place later w.1)
    ],
  );
}

-- a list that gained some hits and then others gained both
pub gained_both : (old middle new found more : List (ℕ × ℕ)) → middle ≡ old ++ found → new ≡ middle ++ more → new ≡ old ++ (found ++ more)
gained_both old middle new found more first second = second ∙ ap (λ hs. hs ++ more) first ∙ append_assoc old found more

-- a list that gained a hit in another form gained the hit
pub gained_one : (old new : List (ℕ × ℕ)) (position hit : ℕ × ℕ) → new ≡ old ++ position ∷ [] → position ≡ hit → new ≡ old ++ hit ∷ []
gained_one old new position hit gained same = subst (λ h. new ≡ old ++ h ∷ []) same gained

-- and it has not become shorter
pub gained_more : (old new found : List (ℕ × ℕ)) → new ≡ old ++ found → length old ≤ length new
gained_more old new found gained = omega (arith, ap length gained, length-append old found)
