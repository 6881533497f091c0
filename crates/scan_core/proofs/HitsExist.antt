-- A text has a list of hits, whatever its literals are.
use Rattle.std.proofs.Common.{◌≡◌, ℕ, zero, suc, ◌+◌, ◌-◌, ◌<◌, ◌≤◌, Bool, true, false, List, [], ◌∷◌, ◌++◌, length, take, Option, Some, None, ◌⊎◌, inl, inr, refl, sym, ap, ◌∙◌, subst, arith}
use Rattle.std.specs.Bool.{Decides}
use Rattle.std.specs.Prelude.{slice_range}
use Rattle.std.specs.List.{slice_get}
use Rattle.std.specs.Str.{bytes_eq}
use Rattle.std.proofs.lemmas.Bool.{cases_eq, cases_lt, false≢true}
use Rattle.std.proofs.lemmas.List.{length-take, take_all}
use Rattle.std.proofs.lemmas.Option.{none-some, same_Some, slice_get_within}
use Rattle.std.proofs.lemmas.Slice.Eq.{bytes_eq-Decides}
use Rattle.lit_base.specs.Folding.{folded_text}
use Rattle.lit_base.specs.Literals.{Literals}
use Rattle.lit_base.specs.Occurrences.{IsFirstEnding, Occurs}
use Rattle.text_ends.specs.HitsAt.{AreHitsAt}
use Rattle.text_ends.specs.HitsAfter.{AreHitsAfter}
use Rattle.text_ends.proofs.HitLists.{AreHitsAtBefore, hits_at_ended, hits_at_more, hits_at_none, hits_further, hits_none, none_past}

-- what a test decides holds or not
holds_or : (b : Bool) (P : Type 0) → Decides b P → P ⊎ (¬ P)
holds_or true P d = inl (d.0 refl)
holds_or false P d = inr (λ p. false≢true (d.1 p))

-- a literal that is shorter than a place ends there or not
ends_there : (l : Literals) (text : List ℕ) (place end : ℕ) (t : List ℕ) → slice_get l.texts place ≡ Some t → length t ≤ end → end ≤ length text → Occurs l text place end ⊎ (¬ Occurs l text place end)
ends_there l text place end t is begins ends =
    let bytes : List ℕ = folded_text l.folding (slice_range text (end - length t) end) in
    elim (holds_or (bytes_eq bytes t) (bytes ≡ t) (bytes_eq-Decides bytes t)) [
      | inl same ↦ inl (record { literal = t; stands = is; begins = begins; ends = ends; bytes = same })
      | inr other ↦ inr (λ o.
          let e : o.literal ≡ t = same_Some o.literal t (sym o.stands ∙ is) in
          other (subst (λ u. folded_text l.folding (slice_range text (end - length u) end) ≡ u) e o.bytes))
    ]

-- a literal ends at a place or not
occurs_at : (l : Literals) (text : List ℕ) (place end : ℕ) (o : Option (List ℕ)) → slice_get l.texts place ≡ o → Occurs l text place end ⊎ (¬ Occurs l text place end)
occurs_at l text place end None is = inr (λ o. none-some o.literal (sym is ∙ o.stands))
occurs_at l text place end (Some t) is = elim (cases_lt end (length t)) [
  | inl short ↦ inr (λ o. absurd (omega (arith, short, o.begins, ap length (same_Some o.literal t (sym o.stands ∙ is)))))
  | inr begins ↦ elim (cases_lt (length text) end) [
    | inl over ↦ inr (λ o. absurd (omega (arith, over, o.ends)))
    | inr ends ↦ ends_there l text place end t is begins ends
  ]
]

-- a place that is not the last one of some is before it
below : (place k : ℕ) → place < suc k → (place ≡ k → ⊥) → place < k
below place k least other = elim (cases_lt place k) [ inl sooner ↦ sooner | inr later ↦ absurd (other (omega (arith, least, later))) ]

-- one literal more, which does not end there
hits_at_same : (l : Literals) (text : List ℕ) (end at k : ℕ) (found : List (ℕ × ℕ)) → AreHitsAtBefore l text end at k found → ¬ Occurs l text k end → AreHitsAtBefore l text end at (suc k) found
hits_at_same l text end at k found early not = record {
  rising = early.rising;
  members = λ place replied. (
    λ inside. let w = (early.members place replied).0 inside in (w.0, omega (arith, w.1), w.2),
    λ w. elim (cases_eq place k) [
      | inl there ↦ absurd (not (subst (λ p. Occurs l text p end) there w.2))
      | inr other ↦ (early.members place replied).1 (w.0, below place k w.1 other, w.2)
    ],
  );
}

-- the hits at one place of the literals before a place of the list
hits_before : (l : Literals) (text : List ℕ) (end at limit : ℕ) → (found : List (ℕ × ℕ)) × AreHitsAtBefore l text end at limit found
hits_before l text end at zero = ([], hits_at_none l text end at)
hits_before l text end at (suc k) =
    let early = hits_before l text end at k in
    elim (occurs_at l text k end (slice_get l.texts k) refl) [
      | inl here ↦
          let next : IsFirstEnding l text k end k = record { counted = omega arith; occurs = here; first = λ other from before. absurd (omega (arith, from, before)) } in
          let one : k + 1 ≡ suc k = omega arith in
          (early.0 ++ (k, at) ∷ [], subst (λ n. AreHitsAtBefore l text end at n (early.0 ++ (k, at) ∷ [])) one (hits_at_more l text end at k k early.0 early.1 next))
      | inr not ↦ (early.0, hits_at_same l text end at k early.0 early.1 not)
    ]

-- the hits at one place
hits_at : (l : Literals) (text : List ℕ) (end at : ℕ) → (found : List (ℕ × ℕ)) × AreHitsAt l text end at found
hits_at l text end at =
    let all = hits_before l text end at (length l.texts) in
    (all.0, hits_at_ended l text end at (length l.texts) all.0 all.1 (λ place later o. absurd (omega (arith, later, slice_get_within l.texts place o.literal o.stands))))

-- the hits after a place and up to another
hits_up_to : (l : Literals) (text : List ℕ) (from at k : ℕ) → from + k ≤ length text → (found : List (ℕ × ℕ)) × AreHitsAfter l (take (from + k) text) from at found
hits_up_to l text from at zero within =
    ([], hits_none l (take (from + 0) text) from at (none_past l (take (from + 0) text) from (omega (arith, length-take (from + 0) text))))
hits_up_to l text from at (suc k) within =
    let early = hits_up_to l text from at k (omega (arith, within)) in
    let here = hits_at l text (from + suc k) (at + (from + suc k - from)) in (
      early.0 ++ here.0,
      hits_further l text from (from + k) (from + suc k) at early.0 here.0 (omega arith) (omega arith) within (λ other after before. absurd (omega (arith, after, before))) early.1 here.1,
    )

-- the hits after a place
pub hits_exist : (l : Literals) (text : List ℕ) (from at : ℕ) → (found : List (ℕ × ℕ)) × AreHitsAfter l text from at found
hits_exist l text from at = elim (cases_lt (length text) from) [
  | inl past ↦ ([], hits_none l text from at (none_past l text from (omega (arith, past))))
  | inr within ↦
      let whole : take (from + (length text - from)) text ≡ text = take_all (from + (length text - from)) text (omega (arith, within)) in
      let all = hits_up_to l text from at (length text - from) (omega (arith, within)) in
      (all.0, subst (λ t. AreHitsAfter l t from at all.0) whole all.1)
]
