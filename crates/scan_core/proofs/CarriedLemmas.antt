-- What a session does by what its scanners keep, it does by all bytes that its streams were fed.
use Rattle.std.proofs.Common.{◌≡◌, ℕ, ◌+◌, ◌^◌, Bool, true, false, cond, List, [], ◌∷◌, ◌++◌, length, map, Option, Some, None, MatchOption, Contains, inl, inr, refl, sym, ap, ◌∙◌, subst, arith, length-append}
use Rattle.std.specs.Prelude.{is_some, nat_eq, nat_le, if◌then◌else◌}
use Rattle.std.specs.Map.{lookup, remove_entry, set_value}
use Rattle.std.proofs.lemmas.Option.{none-some, same_Some}
use Rattle.lit_base.specs.Literals.{Literals}
use Rattle.lit_base.specs.Occurrences.{Occurs}
use Rattle.lit_plan.specs.Plans as plans
use Rattle.flow_scan.specs.Tails.{AreAdded, last_bytes, tail_after}
use Rattle.lit_plan.specs.Bounds.{HasBounds, carry_of}
use Rattle.lit_plan.proofs.BoundLemmas.{bounds_of_normal}
use Rattle.flow_scan.proofs.TailSteps.{added_after_all, last_of_last, last_of_short}
use Rattle.scan_wire.specs.Messages.{RequestParts, Publish, Open, Feed, Close, ShowPlan}
use Rattle.scan_core.specs.declared.limits.TheConstants.{MAX_STREAMS}
use Rattle.scan_core.specs.declared.refusal.Refusal.{Refusal}
use Rattle.scan_core.specs.declared.refusal.Refusal.TheVariants.{StreamInUse, StreamQuota, StreamTooLong}
use Rattle.scan_core.specs.Carried.{AreCarried, EventLaw, IsCarried, IsEventOf, IsSeen}
use Rattle.scan_core.specs.Refusals.{publish_refusal}
use Rattle.scan_core.specs.Sessions.{Bound, by_tails}
use Rattle.scan_core.specs.Steps.{AgreeWith, Entry, IsAccepted, Outcome, SessionParts, closed, known_entries, moved, refusal_of, refused, shown, stream_at, stream_refusal}
use Rattle.scan_core.specs.Worlds.{AreHitsPast, Streamed, by_bytes}

-- two look-ups that agree
abbrev Agree : Option Bound → Option Streamed → Type 0
Agree None None = Unit {0}
Agree None (Some s) = ⊥
Agree (Some b) None = ⊥
Agree (Some b) (Some s) = IsCarried b s

agree_at : (t : Bool) (b : Bound) (s : Streamed) (x : Option Bound) (y : Option Streamed) → IsCarried b s → Agree x y → Agree (cond t (Some b) x) (cond t (Some s) y)
agree_at true b s x y here rest = here
agree_at false b s x y here rest = rest

-- a stream is found both ways
agree : (n : ℕ) (bs : List (ℕ × Bound)) (ss : List (ℕ × Streamed)) → AreCarried bs ss → Agree (lookup (nat_eq n) bs) (lookup (nat_eq n) ss)
agree n [] [] c = tt
agree n [] (s ∷ ss) c = absurd c
agree n (b ∷ bs) [] c = absurd c
agree n (b ∷ bs) (s ∷ ss) c =
    subst (λ k. Agree (lookup (nat_eq n) (b ∷ bs)) (cond (nat_eq n k) (Some s.1) (lookup (nat_eq n) ss))) c.0
    (agree_at (nat_eq n b.0) b.1 s.1 (lookup (nat_eq n) bs) (lookup (nat_eq n) ss) c.1 (agree n bs ss c.2))

agree_some : (x : Option Bound) (y : Option Streamed) (b : Bound) → Agree x y → x ≡ Some b → (s : Streamed) × (y ≡ Some s) × IsCarried b s
agree_some (Some a) (Some s) b same is = (s, refl, subst (λ v. IsCarried v s) (same_Some a b is) same)
agree_some (Some a) None b same is = absurd same
agree_some None y b same is = absurd (none-some b is)

same_is_some : (x : Option Bound) (y : Option Streamed) → Agree x y → is_some y ≡ is_some x
same_is_some (Some b) (Some s) same = refl
same_is_some (Some b) None same = absurd same
same_is_some None (Some s) same = absurd same
same_is_some None None same = refl

same_refusal : (x : Option Bound) (y : Option Streamed) (f : Bound → Option Refusal) (g : Streamed → Option Refusal) → Agree x y → ((b : Bound) (s : Streamed) → IsCarried b s → g s ≡ f b) → stream_refusal y g ≡ stream_refusal x f
same_refusal (Some b) (Some s) f g same each = each b s same
same_refusal (Some b) None f g same each = absurd same
same_refusal None (Some s) f g same each = absurd same
same_refusal None None f g same each = refl

-- there are as many
same_count : (bs : List (ℕ × Bound)) (ss : List (ℕ × Streamed)) → AreCarried bs ss → length ss ≡ length bs
same_count [] [] c = refl
same_count [] (s ∷ ss) c = absurd c
same_count (b ∷ bs) [] c = absurd c
same_count (b ∷ bs) (s ∷ ss) c = let rest = same_count bs ss c.2 in omega arith

-- one stream more
carried_push : (bs : List (ℕ × Bound)) (ss : List (ℕ × Streamed)) (n : ℕ) (b : Bound) (s : Streamed) → AreCarried bs ss → IsCarried b s → AreCarried (bs ++ (n, b) ∷ []) (ss ++ (n, s) ∷ [])
carried_push [] [] n b s c here = (refl, here, tt)
carried_push [] (t ∷ ss) n b s c here = absurd c
carried_push (a ∷ bs) [] n b s c here = absurd c
carried_push (a ∷ bs) (t ∷ ss) n b s c here = (c.0, c.1, carried_push bs ss n b s c.2 here)

carried_if : (t : Bool) (xs ys : List (ℕ × Bound)) (us vs : List (ℕ × Streamed)) → AreCarried xs us → AreCarried ys vs → AreCarried (cond t xs ys) (cond t us vs)
carried_if true xs ys us vs so otherwise = so
carried_if false xs ys us vs so otherwise = otherwise

-- one moved on
carried_set : (n : ℕ) (bs : List (ℕ × Bound)) (ss : List (ℕ × Streamed)) (b : Bound) (s : Streamed) → AreCarried bs ss → IsCarried b s → AreCarried (set_value (nat_eq n) bs b) (set_value (nat_eq n) ss s)
carried_set n [] [] b s c here = tt
carried_set n [] (t ∷ ss) b s c here = absurd c
carried_set n (a ∷ bs) [] b s c here = absurd c
carried_set n (a ∷ bs) (t ∷ ss) b s c here =
    subst (λ k. AreCarried (set_value (nat_eq n) (a ∷ bs) b) (cond (nat_eq n k) ((t.0, s) ∷ ss) (t ∷ set_value (nat_eq n) ss s))) c.0
    (carried_if (nat_eq n a.0) ((a.0, b) ∷ bs) (a ∷ set_value (nat_eq n) bs b) ((t.0, s) ∷ ss) (t ∷ set_value (nat_eq n) ss s) (c.0, here, c.2) (c.0, c.1, carried_set n bs ss b s c.2 here))

-- one fewer
carried_removed : (n : ℕ) (bs : List (ℕ × Bound)) (ss : List (ℕ × Streamed)) → AreCarried bs ss → AreCarried (remove_entry (nat_eq n) bs) (remove_entry (nat_eq n) ss)
carried_removed n [] [] c = tt
carried_removed n [] (t ∷ ss) c = absurd c
carried_removed n (a ∷ bs) [] c = absurd c
carried_removed n (a ∷ bs) (t ∷ ss) c =
    subst (λ k. AreCarried (remove_entry (nat_eq n) (a ∷ bs)) (cond (nat_eq n k) ss (t ∷ remove_entry (nat_eq n) ss))) c.0
    (carried_if (nat_eq n a.0) bs (a ∷ remove_entry (nat_eq n) bs) ss (t ∷ remove_entry (nat_eq n) ss) c.2 (c.0, c.1, carried_removed n bs ss c.2))

-- the refusals are the same
refusals_same : (tails : SessionParts Bound) (bytes : SessionParts Streamed) (request : RequestParts) → IsSeen tails bytes → refusal_of by_bytes bytes request ≡ refusal_of by_tails tails request
refusals_same tails bytes (Publish folding profile literals) seen = ap (λ (published_plans : List Entry). publish_refusal (length published_plans) literals) seen.published_plans
refusals_same tails bytes (Open stream number) seen =
    ap (λ b. if b then Some StreamInUse else if nat_le MAX_STREAMS (length bytes.streams) then Some StreamQuota else None) (same_is_some (stream_at stream tails) (stream_at stream bytes) (agree stream tails.streams bytes.streams seen.streams))
    ∙ ap (λ n. if is_some (stream_at stream tails) then Some StreamInUse else if nat_le MAX_STREAMS n then Some StreamQuota else None) (same_count tails.streams bytes.streams seen.streams)
refusals_same tails bytes (Feed stream piece) seen =
    same_refusal (stream_at stream tails) (stream_at stream bytes)
    (λ state. if nat_le (2 ^ 64) (state.scan.place + length piece) then Some StreamTooLong else None)
    (λ state. if nat_le (2 ^ 64) (length state.bytes + length piece) then Some StreamTooLong else None)
    (agree stream tails.streams bytes.streams seen.streams)
    (λ b s c. ap (λ n. if nat_le (2 ^ 64) (n + length piece) then Some StreamTooLong else None) (sym c.place))
refusals_same tails bytes (Close stream) seen =
    same_refusal (stream_at stream tails) (stream_at stream bytes) (λ state. None) (λ state. None) (agree stream tails.streams bytes.streams seen.streams) (λ b s c. refl)
refusals_same tails bytes (ShowPlan stream) seen =
    same_refusal (stream_at stream tails) (stream_at stream bytes) (λ state. None) (λ state. None) (agree stream tails.streams bytes.streams seen.streams) (λ b s c. refl)

-- the hits after a tail are the hits of all bytes whose ends lie past the bytes before
hits_past : (l : Literals) (tail bytes piece : List ℕ) (place : ℕ) (hits : List (ℕ × ℕ)) → HasBounds l → tail ≡ last_bytes (carry_of l) bytes → place ≡ length bytes → AreAdded l tail piece place hits → AreHitsPast l (bytes ++ piece) (length bytes) hits
hits_past l tail bytes piece place hits bounds last reached added =
    let all : AreAdded l bytes piece (length bytes) hits =
    added_after_all l bytes piece (length bytes) hits bounds
    (subst (λ n. AreAdded l (last_bytes (carry_of l) bytes) piece n hits) reached (subst (λ t. AreAdded l t piece place hits) last added)) in
    record {
      rising = all.rising;
      members = λ place end. (
        λ inside. let w = (all.members place end).0 inside in (w.0, subst (λ e. Occurs l (bytes ++ piece) place e) (omega (arith, w.0)) w.1),
        λ w. (all.members place end).1 (w.0, subst (λ e. Occurs l (bytes ++ piece) place e) (omega (arith, w.0)) w.1),
      );
    }

-- the open streams were opened by the same entries
same_openings : (bs : List (ℕ × Bound)) (ss : List (ℕ × Streamed)) → AreCarried bs ss → map (λ (s : ℕ × Streamed). by_bytes.opened_by s.1) ss ≡ map (λ (b : ℕ × Bound). by_tails.opened_by b.1) bs
same_openings [] [] c = refl
same_openings [] (s ∷ ss) c = absurd c
same_openings (b ∷ bs) [] c = absurd c
same_openings (b ∷ bs) (s ∷ ss) c =
    let first = c.1.opened_by in
    let rest = same_openings bs ss c.2 in
    λ i. first i ∷ rest i

-- the session knows the same
same_known : (tails : SessionParts Bound) (bytes : SessionParts Streamed) → IsSeen tails bytes → known_entries by_bytes bytes ≡ known_entries by_tails tails
same_known tails bytes seen =
    let openings = same_openings tails.streams bytes.streams seen.streams in
    λ i. seen.published_plans i ++ openings i

agreed_seen : (tails : SessionParts Bound) (bytes : SessionParts Streamed) (entry : Entry) → IsSeen tails bytes → AgreeWith (known_entries by_tails tails) entry → AgreeWith (known_entries by_bytes bytes) entry
agreed_seen tails bytes entry seen agreed = subst (λ (known : List Entry). AgreeWith known entry) (sym (same_known tails bytes seen)) agreed

-- the same replies and the same entry met
abbrev Follows : SessionParts Streamed → RequestParts → Outcome Bound → Type 0
Follows bytes request outcome = (after : SessionParts Streamed) × IsSeen outcome.after after × IsAccepted by_bytes bytes request record { replies = outcome.replies; met = outcome.met; after = after }

follows : (tails : SessionParts Bound) (bytes : SessionParts Streamed) (request : RequestParts) (outcome : Outcome Bound) → IsSeen tails bytes → IsAccepted by_tails tails request outcome → Follows bytes request outcome
follows tails bytes (Publish folding profile literals) outcome seen a = subst (Follows bytes (Publish folding profile literals)) (sym a.is) (
  record bytes { published_plans = bytes.published_plans ++ a.entry ∷ [] },
  record { published_plans = ap (λ (es : List Entry). es ++ a.entry ∷ []) seen.published_plans; streams = seen.streams },
  record { entry = a.entry; plan = a.plan; sound = a.sound; agreed = agreed_seen tails bytes a.entry seen a.agreed; is = refl },
)
follows tails bytes (Open stream number) outcome seen a = elim a [
  | inl o ↦
      let state : Streamed = record { number = o.entry.number; plan = o.entry.plan; bytes = [] } in
      let scan = o.begins.1 in
      let here : IsCarried o.state state = record {
        opened_by = sym o.begins.0;
        plan = ap (λ (s : _). s.plan) (sym scan);
        bounds = subst (λ (p : plans.Plan). HasBounds p.literals) (ap (λ (s : _). s.plan) (sym scan)) (bounds_of_normal o.entry.plan.literals o.sound.normal);
        place = ap (λ (s : _). s.place) scan;
        tail = ap (λ (s : _). s.tail) scan ∙ sym (last_of_short (carry_of o.state.scan.plan.literals) [] (omega arith));
      } in
      subst (Follows bytes (Open stream number)) (sym o.is) (
        record bytes { streams = bytes.streams ++ (stream, state) ∷ [] },
        record { published_plans = seen.published_plans; streams = carried_push tails.streams bytes.streams stream o.state state seen.streams here },
        inl record { entry = o.entry; state = state; asked = o.asked; sound = o.sound; agreed = agreed_seen tails bytes o.entry seen o.agreed; begins = refl; is = refl },
      )
  | inr o ↦ subst (Follows bytes (Open stream number)) (sym o.is) (
    bytes,
    seen,
    inr record { stranger = subst (λ (known : List Entry). ¬ Contains (map (λ (e : Entry). e.number) known) number) (sym (same_known tails bytes seen)) o.stranger; is = refl },
  )
]
follows tails bytes (Feed stream piece) outcome seen a =
    let old = a.0 in
    let feeds = a.2 in
    let found = agree_some (stream_at stream tails) (stream_at stream bytes) old (agree stream tails.streams bytes.streams seen.streams) a.1 in
    let state = found.0 in
    let carried = found.2 in
    let l = old.scan.plan.literals in
    let next : Streamed = record state { bytes = state.bytes ++ piece } in
    let hits : AreHitsPast l (state.bytes ++ piece) (length state.bytes) feeds.hits =
    hits_past l old.scan.tail state.bytes piece old.scan.place feeds.hits carried.bounds carried.tail carried.place feeds.moves.1 in
    let moves : AreHitsPast state.plan.literals (state.bytes ++ piece) (length state.bytes) feeds.hits =
    subst (λ (p : plans.Plan). AreHitsPast p.literals (state.bytes ++ piece) (length state.bytes) feeds.hits) (sym carried.plan) hits in
    let after : IsCarried (record old { scan = record old.scan { place = old.scan.place + length piece; tail = tail_after l old.scan.tail piece } }) next = record {
      opened_by = carried.opened_by;
      plan = carried.plan;
      bounds = carried.bounds;
      place = omega (arith, carried.place, length-append state.bytes piece);
      tail = ap (λ t. last_bytes (carry_of l) (t ++ piece)) carried.tail ∙ last_of_last (carry_of l) state.bytes piece;
    } in
    let here : IsCarried feeds.next next = subst (λ (b : Bound). IsCarried b next) (sym feeds.moves.0) after in
    subst (Follows bytes (Feed stream piece)) (sym feeds.is) (
      record bytes { streams = set_value (nat_eq stream) bytes.streams next },
      record { published_plans = seen.published_plans; streams = carried_set stream tails.streams bytes.streams feeds.next next seen.streams here },
      (
        state,
        found.1,
        record {
          hits = feeds.hits;
          blocks = feeds.blocks;
          next = next;
          moves = (refl, moves);
          cut = feeds.cut;
          is = ap (λ n. moved bytes stream feeds.blocks (n + length piece) next) carried.place;
        },
      ),
    )
follows tails bytes (Close stream) outcome seen a = subst (Follows bytes (Close stream)) (sym a) (
  (closed bytes stream).after,
  record { published_plans = seen.published_plans; streams = carried_removed stream tails.streams bytes.streams seen.streams },
  refl,
)
follows tails bytes (ShowPlan stream) outcome seen a =
    let found = agree_some (stream_at stream tails) (stream_at stream bytes) a.0 (agree stream tails.streams bytes.streams seen.streams) a.1 in
    subst (Follows bytes (ShowPlan stream)) (sym a.2) (
      bytes,
      seen,
      (found.0, found.1, ap (λ (p : plans.Plan). shown bytes stream p) (sym found.2.plan)),
    )

step_follows : (tails : SessionParts Bound) (bytes : SessionParts Streamed) (request : RequestParts) (outcome : Outcome Bound) (o : Option Refusal) → refusal_of by_tails tails request ≡ o → IsSeen tails bytes → MatchOption o (IsAccepted by_tails tails request outcome) (λ refusal. outcome ≡ refused tails request refusal) → IsEventOf outcome bytes request
step_follows tails bytes request outcome None is seen a =
    let f = follows tails bytes request outcome seen a in
    let seen_by : Outcome Streamed = record { replies = outcome.replies; met = outcome.met; after = f.0 } in
    record {
      after = f.0;
      seen = f.1;
      step = subst (λ r. MatchOption r (IsAccepted by_bytes bytes request seen_by) (λ refusal. seen_by ≡ refused bytes request refusal)) (sym (refusals_same tails bytes request seen ∙ is)) f.2;
    }
step_follows tails bytes request outcome (Some refusal) is seen a =
    let P : Outcome Bound → Type 0 = λ out. IsEventOf out bytes request in
    let replied = refused bytes request refusal in
    subst P (sym a) record {
      after = bytes;
      seen = seen;
      step = subst (λ r. MatchOption r (IsAccepted by_bytes bytes request replied) (λ refusal. replied ≡ refused bytes request refusal)) (sym (refusals_same tails bytes request seen ∙ is)) refl;
    }

pub event_law_lem : EventLaw
event_law_lem tails bytes request outcome seen step = step_follows tails bytes request outcome (refusal_of by_tails tails request) refl seen step
