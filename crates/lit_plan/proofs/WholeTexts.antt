-- The hits of a whole text are those after its start.
use Rattle.std.proofs.Common.{◌≡◌, ℕ, ◌+◌, ◌-◌, ◌≤◌, List, ◌++◌, length, take, subst, arith}
use Rattle.lit_base.specs.Literals.{Literals}
use Rattle.lit_base.specs.Occurrences.{IsHits, Occurs}
use Rattle.text_ends.specs.HitsAfter.{AreHitsAfter, Continues}
use Rattle.text_ends.proofs.HitLists.{hits_joined}
use Rattle.lit_plan.specs.Bounds.{HasBounds}

-- the hits after the start of a text, counted from 0, are the hits of the text
pub hits_from_start : (l : Literals) (text : List ℕ) (hits : List (ℕ × ℕ)) → HasBounds l → AreHitsAfter l text 0 0 hits → IsHits l text hits
hits_from_start l text hits b all = record {
  rising = all.rising;
  members = λ place end. (
    λ inside. let w = (all.members place end).0 inside in subst (λ e. Occurs l text place e) (omega arith) w.1,
    λ o. (all.members place end).1 (omega (arith, b.some place o.literal o.stands, o.begins), subst (λ e. Occurs l text place e) (omega arith) o),
  );
}

-- the hits of a text are those after its start
hits_to_start : (l : Literals) (text : List ℕ) (hits : List (ℕ × ℕ)) → HasBounds l → IsHits l text hits → AreHitsAfter l text 0 0 hits
hits_to_start l text hits b all = record {
  rising = all.rising;
  members = λ place end. (
    λ inside. let o = (all.members place end).0 inside in
        (omega (arith, b.some place o.literal o.stands, o.begins), subst (λ e. Occurs l text place e) (omega arith) o),
    λ w. (all.members place end).1 (subst (λ e. Occurs l text place e) (omega arith) w.1),
  );
}

-- the hits after a position continue the hits up to there
pub hits_continued : (l : Literals) (text : List ℕ) (from : ℕ) (hits : List (ℕ × ℕ)) → HasBounds l → from ≤ length text → AreHitsAfter l text from from hits → Continues l text from hits
hits_continued l text from hits b within later prefix early =
    let known : from ≡ 0 + (from - 0) = omega arith in
    hits_from_start l text (prefix ++ hits) b
    (hits_joined l text 0 from 0 prefix hits (omega arith) within (hits_to_start l (take from text) prefix b early) (subst (λ x. AreHitsAfter l text from x hits) known later))
