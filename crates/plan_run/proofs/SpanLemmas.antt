-- The hits of a text in spans: there are some after each position, and those of all spans are those of the text.
use Rattle.std.proofs.Common.{◌≡◌, ℕ, zero, suc, ◌+◌, ◌-◌, ◌<◌, ◌≤◌, Bool, true, false, List, [], ◌∷◌, ◌++◌, length, take, get_or, Option, Some, Result, Ok, Err, ◌⊎◌, inl, inr, refl, sym, ap, ◌∙◌, subst, arith, add-one, append_assoc, true≢false}
use Rattle.std.specs.List.{slice_get}
use Rattle.std.specs.Prelude.{slice_range}
use Rattle.std.specs.Io.KnownBytes.{Appends}
use Rattle.std.specs.Str.{bytes_eq}
use Rattle.std.proofs.lemmas.Bool.{cases_lt}
use Rattle.std.proofs.lemmas.List.{length-take, take_all, take-take}
use Rattle.std.proofs.lemmas.Option.{get_or_from_slice_get, slice_get-get_or, slice_get_within}
use Rattle.std.proofs.lemmas.Slice.Eq.{bytes_eq-Decides}
use Rattle.lit_base.specs.Folding.{folded_text}
use Rattle.lit_base.specs.Literals.{Literals}
use Rattle.lit_base.specs.NextEnds.{NoEndAfter}
use Rattle.lit_base.specs.Occurrences.{IsHits, Occurs}
use Rattle.lit_plan.specs.Bounds.{HasBounds}
use Rattle.lit_plan.proofs.WholeTexts.{hits_from_start}
use Rattle.text_ends.specs.HitsAfter.{AreHitsAfter}
use Rattle.text_ends.specs.HitsAt.{AreHitsAt}
use Rattle.text_ends.proofs.HitLists.{AreHitsAtBefore, hits_at_ended, hits_at_more, hits_at_none, hits_further, hits_joined, hits_none, none_past}
use Rattle.plan_run.specs.declared.stop.Stop.{Stop}
use Rattle.plan_run.specs.declared.stop.Stop.TheVariants.{OutOfMemory}
use Rattle.plan_run.specs.Answers.{AreHitsReported}
use Rattle.plan_run.specs.Listings.{hit_lines}
use Rattle.plan_run.specs.Running.{Reports, Writes}
use Rattle.plan_run.specs.Spans.{IsSpan}
use Rattle.plan_run.specs.declared.request.HitLine.{HitLine}
use Rattle.plan_run.specs.declared.request.Listing.TheVariants.{Lines}
use Rattle.plan_run.specs.declared.status.Status.{Status}
use Rattle.plan_run.specs.declared.status.Status.TheVariants.{Done}
use Rattle.plan_run.proofs.AnswerLemmas.{reports-text}
use Rattle.plan_run.proofs.ListingLemmas.{starved-more, stopped-more}

-- ---- there are hits after each position

-- a literal ends at a position or not: it does if the slice before the position is the literal
by_bytes : (l : Literals) (text : List ℕ) (place end : ℕ) (literal : List ℕ) (same : Bool) → slice_get l.texts place ≡ Some literal → length literal ≤ end → end ≤ length text
    → bytes_eq (folded_text l.folding (slice_range text (end - length literal) end)) literal ≡ same → ((o : Occurs l text place end) → literal ≡ o.literal) → Occurs l text place end ⊎ (¬ Occurs l text place end)
by_bytes l text place end literal true stands long within same own = inl (record {
  literal = literal;
  stands = stands;
  begins = long;
  ends = within;
  bytes = (bytes_eq-Decides (folded_text l.folding (slice_range text (end - length literal) end)) literal).0 same;
})
by_bytes l text place end literal false stands long within same own = inr (λ o. absurd (true≢false (
    sym ((bytes_eq-Decides (folded_text l.folding (slice_range text (end - length literal) end)) literal).1
    (subst (λ (t : List ℕ). folded_text l.folding (slice_range text (end - length t) end) ≡ t) (sym (own o)) o.bytes)) ∙ same)))

occurs_or_not : (l : Literals) (text : List ℕ) (place end : ℕ) → place < length l.texts → end ≤ length text → Occurs l text place end ⊎ (¬ Occurs l text place end)
occurs_or_not l text place end inside within =
    let literal : List ℕ = get_or l.texts place [] in
    let own : (o : Occurs l text place end) → literal ≡ o.literal = λ o. get_or_from_slice_get l.texts place o.literal [] o.stands in
    elim (cases_lt end (length literal)) [
      | inl short ↦ inr (λ o. omega (arith, short, o.begins, ap length (own o)))
      | inr long ↦ by_bytes l text place end literal (bytes_eq (folded_text l.folding (slice_range text (end - length literal) end)) literal)
          (slice_get-get_or l.texts place [] inside) long within refl own
    ]

-- the hits at a position, of the literals before a place of the list
hits_at_before : (l : Literals) (text : List ℕ) (end limit : ℕ) → limit ≤ length l.texts → end ≤ length text → (found : List (ℕ × ℕ)) × AreHitsAtBefore l text end end limit found
hits_at_before l text end zero inside within = ([], hits_at_none l text end end)
hits_at_before l text end (suc limit) inside within =
    let before = hits_at_before l text end limit (omega (arith, inside)) within in
    elim (occurs_or_not l text limit end (omega (arith, inside)) within) [
      | inl here ↦ (
        before.0 ++ (limit, end) ∷ [],
        subst (λ n. AreHitsAtBefore l text end end n (before.0 ++ (limit, end) ∷ [])) (add-one limit) (
            hits_at_more l text end end limit limit before.0 before.1 (record {
              counted = omega arith;
              occurs = here;
              first = λ other from below. absurd (omega (arith, from, below));
            })),
      )
      | inr none ↦ (
        before.0,
        record {
          rising = before.1.rising;
          members = λ place position. (
            λ found. let w = (before.1.members place position).0 found in (w.0, omega (arith, w.1), w.2),
            λ w. elim (cases_lt place limit) [
              | inl sooner ↦ (before.1.members place position).1 (w.0, sooner, w.2)
              | inr later ↦ absurd (none (subst (λ p. Occurs l text p end) (omega (arith, w.1, later)) w.2))
            ],
          );
        },
      )
    ]

-- the hits at a position
hits_at : (l : Literals) (text : List ℕ) (end : ℕ) → end ≤ length text → (found : List (ℕ × ℕ)) × AreHitsAt l text end end found
hits_at l text end within =
    let all = hits_at_before l text end (length l.texts) (omega arith) within in
    (all.0, hits_at_ended l text end end (length l.texts) all.0 all.1 (λ place past o. omega (arith, past, slice_get_within l.texts place o.literal o.stands)))

-- the hits of some bytes after a position
hits_of_some : (l : Literals) (text : List ℕ) (from count : ℕ) → from + count ≤ length text → (found : List (ℕ × ℕ)) × AreHitsAfter l (take (from + count) text) from from found
hits_of_some l text from zero within =
    ([], hits_none l (take (from + 0) text) from from (none_past l (take (from + 0) text) from (omega (arith, length-take (from + 0) text))))
hits_of_some l text from (suc count) within =
    let before = hits_of_some l text from count (omega (arith, within)) in
    let end : ℕ = from + suc count in
    let here = hits_at l text end within in (
      before.0 ++ here.0,
      hits_further l text from (from + count) end from before.0 here.0 (omega arith) (omega arith) within
          (λ other after sooner. absurd (omega (arith, after, sooner))) before.1 (subst (λ at. AreHitsAt l text end at here.0) (omega arith) here.1),
    )

-- the hits after a position
hits_after : (l : Literals) (text : List ℕ) (from : ℕ) → from ≤ length text → (found : List (ℕ × ℕ)) × AreHitsAfter l text from from found
hits_after l text from within =
    let some = hits_of_some l text from (length text - from) (omega (arith, within)) in
    (some.0, subst (λ t. AreHitsAfter l t from from some.0) (take_all (from + (length text - from)) text (omega (arith, within))) some.1)

-- ---- the hits of all spans

-- the hits up to a position and those after it
joined : (l : Literals) (text : List ℕ) (from : ℕ) (done more : List (ℕ × ℕ)) → from ≤ length text → AreHitsAfter l (take from text) 0 0 done → AreHitsAfter l text from from more → AreHitsAfter l text 0 0 (done ++ more)
joined l text from done more within early late =
    hits_joined l text 0 from 0 done more (omega arith) within early (subst (λ at. AreHitsAfter l text from at more) (omega arith) late)

-- those up to the end of a span
pub span-joined : (l : Literals) (text : List ℕ) (from end : ℕ) (done hits : List (ℕ × ℕ)) → AreHitsAfter l (take from text) 0 0 done → IsSpan l text from end hits → AreHitsAfter l (take end text) 0 0 (done ++ hits)
span-joined l text from end done hits early span =
    joined l (take end text) from done hits (omega (arith, span.some, span.within, length-take end text))
    (subst (λ t. AreHitsAfter l t 0 0 done) (sym (take-take from end text (omega (arith, span.some)))) early) span.hits_are

-- at the end of the text they are all
pub all-hits : (l : Literals) (text : List ℕ) (from : ℕ) (done : List (ℕ × ℕ)) → HasBounds l → length text ≤ from → AreHitsAfter l (take from text) 0 0 done → IsHits l text done
all-hits l text from done bounds past early = hits_from_start l text done bounds (subst (λ t. AreHitsAfter l t 0 0 done) (take_all from text past) early)

-- ---- their lines

-- a part of the lines of all hits, or all of them, as the answer
listed : (line : HitLine) (l : Literals) (text : List ℕ) (all : List (ℕ × ℕ)) (r : Result Status Stop) (old new : Option (List ℕ)) → IsHits l text all → Writes (hit_lines line l all) Done r old new
    → Reports (AreHitsReported l (Lines line) text) r old new
listed line l text all r old new right w = reports-text (AreHitsReported l (Lines line) text) (hit_lines line l all) Done r old new (record { hits = all; right = right; is = refl }) w

-- all lines were written
pub listed-all : (line : HitLine) (l : Literals) (text : List ℕ) (from : ℕ) (done : List (ℕ × ℕ)) (old new : Option (List ℕ)) → HasBounds l → length text ≤ from → AreHitsAfter l (take from text) 0 0 done
    → Appends old new (hit_lines line l done) → Reports (AreHitsReported l (Lines line) text) (Ok Done) old new
listed-all line l text from done old new bounds past early written = listed line l text done (Ok Done) old new (all-hits l text from done bounds past early) (refl, written)

-- where something ends there are hits
some-hits : (l : Literals) (text : List ℕ) (from : ℕ) (hits : List (ℕ × ℕ)) → ¬ NoEndAfter l text from → AreHitsAfter l text from from hits → 0 < length hits
some-hits l text from [] ends are =
    absurd (ends (λ end after here. omega (arith, ((are.members here.0 end).1 (after, subst (λ e. Occurs l text here.0 e) (omega (arith, after)) here.1)).1)))
some-hits l text from (hit ∷ hits) ends are = omega arith

-- memory ran out while the next span was scanned, in which something ends
pub listing-starved : (line : HitLine) (l : Literals) (text : List ℕ) (from : ℕ) (done : List (ℕ × ℕ)) (r : Result Status Stop) (old new : Option (List ℕ)) → HasBounds l → from ≤ length text → r ≡ Err OutOfMemory
    → ¬ NoEndAfter l text from → AreHitsAfter l (take from text) 0 0 done → Appends old new (hit_lines line l done) → Reports (AreHitsReported l (Lines line) text) r old new
listing-starved line l text from done r old new bounds within is ends early written =
    let rest = hits_after l text from within in
    let all = joined l text from done rest.0 within early rest.1 in
    listed line l text (done ++ rest.0) r old new (hits_from_start l text (done ++ rest.0) bounds all)
    (starved-more line l old new (done ++ rest.0) done rest.0 Done r is refl (some-hits l text from rest.0 ends rest.1) written)

-- the lines of a span were not all written
pub listing-stopped : (line : HitLine) (l : Literals) (text : List ℕ) (from end : ℕ) (done hits shown : List (ℕ × ℕ)) (stop : Stop) (old mid new : Option (List ℕ)) → HasBounds l → IsSpan l text from end hits → shown ≡ hits
    → AreHitsAfter l (take from text) 0 0 done → Appends old mid (hit_lines line l done) → Writes (hit_lines line l shown) Done (Err stop) mid new → Reports (AreHitsReported l (Lines line) text) (Err stop) old new
listing-stopped line l text from end done hits shown stop old mid new bounds span same early written w =
    let after = hits_after l text end span.within in
    let all : List (ℕ × ℕ) = done ++ (hits ++ after.0) in
    let are : AreHitsAfter l text 0 0 all =
    subst (AreHitsAfter l text 0 0) (append_assoc done hits after.0) (joined l text end (done ++ hits) after.0 span.within (span-joined l text from end done hits early span) after.1) in
    listed line l text all (Err stop) old new (hits_from_start l text all bounds are)
    (stopped-more line l old mid new all done hits after.0 (hit_lines line l hits) Done stop refl refl written (subst (λ (hs : List (ℕ × ℕ)). Writes (hit_lines line l hs) Done (Err stop) mid new) same w))
