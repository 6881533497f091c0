-- A Feed that is answered prefix by prefix has the same outcome as a Feed answered at once.
use Rattle.std.proofs.Common.{◌≡◌, ℕ, ◌+◌, ◌^◌, ◌<◌, ◌≤◌, true, false, List, [], ◌++◌, length, take, Option, Some, None, IfOk, IfErr, MatchOption, refl, sym, ap, ◌∙◌, subst, arith, inl, inr}
use Rattle.std.specs.Prelude.{nat_eq, nat_le, if◌then◌else◌}
use Rattle.std.specs.Map.{lookup, set_value}
use Rattle.std.specs.Option.{ok_or}
use Rattle.std.proofs.lemmas.Bool.{cases_lt, eq-eqb}
use Rattle.std.proofs.lemmas.Map.Steps.{set_value_same}
use Rattle.std.proofs.lemmas.Bool.Decides.{nat_tests}
use Rattle.std.proofs.Math.ListN.{set}
use Rattle.std.proofs.lemmas.List.{append-nil, append_assoc, length-append}
use Rattle.std.proofs.lemmas.Option.{none-some, same_Some}
use Rattle.flow_scan.specs.Scanners.{Scanning, fed}
use Rattle.flow_scan.specs.Tails.{AreAdded, last_bytes, tail_after}
use Rattle.lit_plan.specs.Bounds.{carry_of}
use Rattle.flow_scan.proofs.TailSteps.{added_after_all, added_joined, added_nothing, last_of_last, last_of_short}
use Rattle.scan_wire.specs.Messages.{Feed}
use Rattle.scan_wire.specs.declared.message.TheConstants.{MAX_HITS}
use Rattle.scan_core.specs.declared.refusal.Refusal.TheVariants.{StreamTooLong}
use Rattle.scan_core.specs.Blocks.{AreBlocks}
use Rattle.scan_core.specs.Prefixes.{FeedsPrefix, IsFeeding, IsKept, MayFeed, MovesUpTo, fed_by}
use Rattle.scan_core.specs.Sessions.{Bound, IsEvent, Serving, by_tails, parts_of}
use Rattle.scan_core.specs.Steps.{Outcome, fed_replies, moved, refusal_of, stream_at, stream_refusal}
use Rattle.scan_core.proofs.HitsExist.{hits_exist}
use Rattle.scan_core.specs.Streams.{StandsAt}
use Rattle.scan_core.proofs.StepLemmas.{a_stream, fed_too_long, step_accepted}
use Rattle.scan_core.proofs.StreamLemmas.{lookup_at, set_at}
use Rattle.scan_core.proofs.StreamLists.{lookup_set, set_twice, when_so}

-- no bytes leave a scan as it is
fed_none : (scan : Scanning) → IsKept scan → fed scan [] ≡ scan
fed_none scan kept =
    let place : scan.place + 0 ≡ scan.place = omega arith in
    let tail : tail_after scan.plan.literals scan.tail [] ≡ scan.tail =
    ap (last_bytes (carry_of scan.plan.literals)) (append-nil scan.tail) ∙ last_of_short (carry_of scan.plan.literals) scan.tail kept.short in
    λ i. record scan { place = place i; tail = tail i }

-- bytes and then others are the bytes of both
fed_twice : (scan : Scanning) (first second : List ℕ) → fed (fed scan first) second ≡ fed scan (first ++ second)
fed_twice scan first second =
    let c = carry_of scan.plan.literals in
    let place : scan.place + length first + length second ≡ scan.place + length (first ++ second) = omega (arith, length-append first second) in
    let tail : tail_after scan.plan.literals (tail_after scan.plan.literals scan.tail first) second ≡ tail_after scan.plan.literals scan.tail (first ++ second) =
    last_of_last c (scan.tail ++ first) second ∙ ap (last_bytes c) (append_assoc scan.tail first second) in
    λ i. record scan { place = place i; tail = tail i }

-- a place that fits, after a piece of an open stream
pub place_fits : (s : Serving) (stream index : ℕ) (piece : List ℕ) (at : StandsAt stream s.streams index) (after : Option ℕ) → IsKept at.state.scan
    → MatchOption after (2 ^ 64 ≤ at.state.scan.place + length piece) (λ place. (place ≡ at.state.scan.place + length piece) × (place < 2 ^ 64))
    → IfOk (ok_or after StreamTooLong) (λ place. MayFeed s stream piece place)
place_fits s stream index piece at None kept long = tt
place_fits s stream index piece at (Some place) kept is = record {
  state = at.state;
  here = lookup_at stream s.streams index at;
  kept = kept;
  reached = is.0;
  fits = is.1;
}

-- and a piece that does not fit
pub place_refused : (s : Serving) (stream index : ℕ) (piece : List ℕ) (at : StandsAt stream s.streams index) (after : Option ℕ)
    → MatchOption after (2 ^ 64 ≤ at.state.scan.place + length piece) (λ place. (place ≡ at.state.scan.place + length piece) × (place < 2 ^ 64))
    → IfErr (ok_or after StreamTooLong) (λ refusal. refusal_of by_tails (parts_of s) (Feed stream piece) ≡ Some refusal)
place_refused s stream index piece at None long = fed_too_long s stream index piece at long
place_refused s stream index piece at (Some place) is = tt

-- nothing was fed yet
pub feeding_none : (s : Serving) (stream : ℕ) (piece : List ℕ) (place : ℕ) → MayFeed s stream piece place → IsFeeding s stream [] [] s
feeding_none s stream piece place may = record {
  state = may.state;
  here = may.here;
  kept = may.kept;
  added = added_nothing may.state.scan.plan.literals may.state.scan.tail may.state.scan.place;
  is = sym (ap (λ (scan : Scanning). record s { streams = set_value (nat_eq stream) s.streams (record may.state { scan = scan }) }) (fed_none may.state.scan may.kept)
      ∙ ap (λ streams. record s { streams = streams }) (set_value_same (nat_eq stream) s.streams may.state may.here));
}

-- the stream stands after the bytes that it was fed
pub stands_after : (s t : Serving) (stream : ℕ) (bytes : List ℕ) (hits : List (ℕ × ℕ)) → (f : IsFeeding s stream bytes hits t) → stream_at stream (parts_of t) ≡ Some (record f.state { scan = fed f.state.scan bytes })
stands_after s t stream bytes hits f =
    let next : Bound = record f.state { scan = fed f.state.scan bytes } in
    ap (λ (u : Serving). lookup (nat_eq stream) u.streams) f.is
    ∙ lookup_set stream stream s.streams f.state next f.here ∙ when_so (nat_eq stream stream) (Some next) (lookup (nat_eq stream) s.streams) (eq-eqb stream stream refl)

-- the hits of the next bytes, added to the earlier hits, are the hits of all bytes that were fed
both_added : (s t : Serving) (stream : ℕ) (bytes more : List ℕ) (hits rest : List (ℕ × ℕ)) → (f : IsFeeding s stream bytes hits t)
    → AreAdded f.state.scan.plan.literals (tail_after f.state.scan.plan.literals f.state.scan.tail bytes) more (f.state.scan.place + length bytes) rest
    → AreAdded f.state.scan.plan.literals f.state.scan.tail (bytes ++ more) f.state.scan.place (hits ++ rest)
both_added s t stream bytes more hits rest f added =
    let scan = f.state.scan in
    added_joined scan.plan.literals scan.tail bytes more scan.place hits rest f.added
    (added_after_all scan.plan.literals (scan.tail ++ bytes) more (scan.place + length bytes) rest f.kept.bounds added)

-- the session after both
both_fed : (s t u : Serving) (stream : ℕ) (bytes more : List ℕ) (state : Bound) → t ≡ fed_by s stream state bytes → u ≡ fed_by t stream (record state { scan = fed state.scan bytes }) more → u ≡ fed_by s stream state (bytes ++ more)
both_fed s t u stream bytes more state first second =
    let one : Bound = record state { scan = fed state.scan bytes } in
    let two : Bound = record state { scan = fed (fed state.scan bytes) more } in
    second
    ∙ ap (λ (v : Serving). record v { streams = set_value (nat_eq stream) v.streams two }) first
    ∙ ap (λ streams. record s { streams = streams }) (set_twice stream s.streams one two)
    ∙ ap (λ (scan : Scanning). record s { streams = set_value (nat_eq stream) s.streams (record state { scan = scan }) }) (fed_twice state.scan bytes more)

-- a prefix more
pub feeding_more : (s t u : Serving) (stream : ℕ) (bytes piece : List ℕ) (most count : ℕ) (replied old new : List (ℕ × ℕ)) → IsFeeding s stream bytes (replied ++ old) t → FeedsPrefix t stream piece most count old new u → IsFeeding s stream (bytes ++ take count piece) (replied ++ new) u
feeding_more s t u stream bytes piece most count replied old new f prefix =
    let after : Bound = record f.state { scan = fed f.state.scan bytes } in
    let same : prefix.state ≡ after = same_Some prefix.state after (sym prefix.here ∙ stands_after s t stream bytes (replied ++ old) f) in
    let gained = prefix.stops.gained in
    let added : AreAdded f.state.scan.plan.literals (tail_after f.state.scan.plan.literals f.state.scan.tail bytes) (take count piece) (f.state.scan.place + length bytes) gained.found =
    subst (λ (b : Bound). AreAdded b.scan.plan.literals b.scan.tail (take count piece) b.scan.place gained.found) same gained.added in
    let hits : (replied ++ old) ++ gained.found ≡ replied ++ new = append_assoc replied old gained.found ∙ ap (λ hs. replied ++ hs) (sym gained.grown) in
    record {
      state = f.state;
      here = f.here;
      kept = f.kept;
      added = subst (AreAdded f.state.scan.plan.literals f.state.scan.tail (bytes ++ take count piece) f.state.scan.place) hits
          (both_added s t stream bytes (take count piece) (replied ++ old) gained.found f added);
      is = both_fed s t u stream bytes (take count piece) f.state f.is (subst (λ (b : Bound). u ≡ fed_by t stream b (take count piece)) same prefix.is);
    }

-- the rest of a piece is not refused
pub feeding_goes_on : (s t : Serving) (stream : ℕ) (piece bytes rest : List ℕ) (hits : List (ℕ × ℕ)) (place : ℕ) → MayFeed s stream piece place → piece ≡ bytes ++ rest → IsFeeding s stream bytes hits t → refusal_of by_tails (parts_of t) (Feed stream rest) ≡ None
feeding_goes_on s t stream piece bytes rest hits place may is f =
    let same : may.state ≡ f.state = same_Some may.state f.state (sym may.here ∙ f.here) in
    let reached : place ≡ f.state.scan.place + length piece = may.reached ∙ ap (λ (b : Bound). b.scan.place + length piece) same in
    let fits : f.state.scan.place + length bytes + length rest < 2 ^ 64 = omega (arith, may.fits, reached, ap length is, length-append bytes rest) in
    let room : nat_le (2 ^ 64) (f.state.scan.place + length bytes + length rest) ≡ false = grind (arith, nat_tests) in
    ap (λ o. stream_refusal o (λ (state : Bound). if nat_le (2 ^ 64) (state.scan.place + length rest) then Some StreamTooLong else None)) (stands_after s t stream bytes hits f)
    ∙ ap (λ b. if b then Some StreamTooLong else None) room

-- for any remaining bytes there are the hits
pub feeding_completes : (s t : Serving) (stream : ℕ) (bytes rest : List ℕ) (hits : List (ℕ × ℕ)) → IsFeeding s stream bytes hits t → (more : List (ℕ × ℕ)) × (u : Serving) × IsFeeding s stream (bytes ++ rest) (hits ++ more) u
feeding_completes s t stream bytes rest hits f =
    let scan = f.state.scan in
    let tail = tail_after scan.plan.literals scan.tail bytes in
    let found = hits_exist scan.plan.literals (tail ++ rest) (length tail) (scan.place + length bytes) in (
      found.0,
      fed_by s stream f.state (bytes ++ rest),
      record {
        state = f.state;
        here = f.here;
        kept = f.kept;
        added = both_added s t stream bytes rest hits found.0 f found.1;
        is = refl;
      },
    )

-- the whole piece was fed: that is the event
pub feeding_ends : (s t : Serving) (stream : ℕ) (piece : List ℕ) (hits : List (ℕ × ℕ)) (blocks : List (List (ℕ × ℕ))) (place : ℕ) → MayFeed s stream piece place → IsFeeding s stream piece hits t → AreBlocks MAX_HITS hits blocks → IsEvent s (Feed stream piece) (fed_replies stream blocks place) t
feeding_ends s t stream piece hits blocks place may f cut =
    let same : may.state ≡ f.state = same_Some may.state f.state (sym may.here ∙ f.here) in
    let reached : place ≡ f.state.scan.place + length piece = may.reached ∙ ap (λ (b : Bound). b.scan.place + length piece) same in
    let none : refusal_of by_tails (parts_of s) (Feed stream piece) ≡ None = feeding_goes_on s s stream piece [] piece [] place may refl (feeding_none s stream piece place may) in
    let next : Bound = record f.state { scan = fed f.state.scan piece } in
    let outcome : Outcome Bound = record { replies = fed_replies stream blocks place; met = None; after = parts_of t } in
    let is : outcome ≡ moved (parts_of s) stream blocks (f.state.scan.place + length piece) next =
    λ i. record { replies = fed_replies stream blocks (reached i); met = None; after = parts_of (f.is i) } in
    record {
      met = None;
      step = step_accepted by_tails (parts_of s) (Feed stream piece) outcome none
          (f.state, f.here, record { hits = hits; blocks = blocks; next = next; moves = (refl, f.added); cut = cut; is = is });
      store = ap (λ (n : Serving). n.store) f.is;
    }

-- where the test is false, the number is smaller
room_of : (n m : ℕ) → (if nat_le n m then Some StreamTooLong else None) ≡ None → m < n
room_of n m none = elim (cases_lt m n) [
  | inl below ↦ below
  | inr over ↦
      let so : nat_le n m ≡ true = grind (arith, nat_tests) in
      absurd (none-some StreamTooLong (sym none ∙ ap (λ b. if b then Some StreamTooLong else None) so))
]

-- after a piece that is not refused the place fits
pub feed_room : (s : Serving) (stream index : ℕ) (piece : List ℕ) (at : StandsAt stream s.streams index) → refusal_of by_tails (parts_of s) (Feed stream piece) ≡ None → at.state.scan.place + length piece < 2 ^ 64
feed_room s stream index piece at none =
    room_of (2 ^ 64) (at.state.scan.place + length piece)
    (sym (a_stream s stream index (λ state. if nat_le (2 ^ 64) (state.scan.place + length piece) then Some StreamTooLong else None) at) ∙ none)

-- a prefix of a piece is fed to the stream at an index
pub prefix_fed : (s new : Serving) (stream index : ℕ) (piece : List ℕ) (most count : ℕ) (old hits : List (ℕ × ℕ)) (next : ℕ × Bound) → (at : StandsAt stream s.streams index) → MovesUpTo (stream, at.state) piece most count old hits next → new ≡ record s { streams = set s.streams index next } → FeedsPrefix s stream piece most count old hits new
prefix_fed s new stream index piece most count old hits next at moves later = record {
  state = at.state;
  here = lookup_at stream s.streams index at;
  stops = moves.stops;
  is = later ∙ ap (λ (n : ℕ × Bound). record s { streams = set s.streams index n }) moves.state
      ∙ ap (λ streams. record s { streams = streams }) (set_at stream s.streams index (record at.state { scan = fed at.state.scan (take count piece) }) at);
}
