-- One case of a session's event each: how a request and its replies come to be a step.
use Rattle.std.proofs.Common.{◌≡◌, ◌≢◌, ℕ, ◌+◌, ◌^◌, ◌<◌, ◌≤◌, List, [], ◌∷◌, ◌++◌, length, map, Option, Some, None, MatchOption, Contains, true, false, refl, sym, ap, ◌∙◌, subst, inl, inr, arith}
use Rattle.std.specs.Prelude.{is_some, nat_eq, nat_le, if◌then◌else◌}
use Rattle.std.specs.Map.{lookup, set_value}
use Rattle.std.proofs.Math.ListN.{set}
use Rattle.std.specs.List.{remove}
use Rattle.std.proofs.lemmas.Bool.Decides.{nat_tests}
use Rattle.std.proofs.lemmas.List.{length-map, map-append}
use Rattle.lit_base.specs.declared.fold.Fold.{Fold}
use Rattle.lit_base.specs.declared.profile.Profile.{Profile}
use Rattle.plan_store.specs.Tickets.{TicketParts}
use Rattle.flow_scan.specs.Scanners.{fed, started}
use Rattle.flow_scan.specs.Tails.{AreAdded}
use Rattle.scan_wire.specs.Messages.{RequestParts, ReplyParts, Publish, Open, Feed, Close, ShowPlan, Published, Opened, Hits, Fed, Closed, Plan, Refused}
use Rattle.scan_core.specs.declared.refusal.Refusal.{Refusal}
use Rattle.scan_core.specs.declared.refusal.Refusal.TheVariants.{StreamInUse, StreamQuota, NoSuchPlan, NoSuchStream, StreamTooLong}
use Rattle.scan_core.specs.declared.limits.TheConstants.{MAX_STREAMS}
use Rattle.scan_wire.specs.declared.message.TheConstants.{MAX_HITS}
use Rattle.scan_core.specs.Blocks.{AreBlocks}
use Rattle.scan_core.specs.Publishing.{IsSoundPlanOf}
use Rattle.scan_core.specs.Refusals.{code_of, publish_refusal}
use Rattle.scan_core.specs.Sessions.{Bound, IsEvent, Serving, by_tails, entry_of, parts_of}
use Rattle.scan_core.specs.Steps.{AgreeWith, Entry, IsAccepted, IsSound, IsStep, Outcome, Reading, SessionParts, closed, fed_replies, known_entries, moved, opened, plan_reply, published, refusal_of, refused, refused_reply, shown, stream_at, stream_of, stream_refusal}
use Rattle.scan_core.specs.Streams.{MovesTo, StandsAt}
use Rattle.scan_core.specs.Together.{known_to, tickets_of}
use Rattle.scan_core.proofs.StreamLemmas.{lookup_at, remove_at, set_at}

-- the entries of open streams are the entries of their tickets
opened_shown : (streams : List (ℕ × Bound)) → map (λ (stream : ℕ × Bound). by_tails.opened_by stream.1) streams ≡ map entry_of (map (λ (stream : ℕ × Bound). stream.1.ticket) streams)
opened_shown [] = refl
opened_shown (stream ∷ streams) = ap (λ es. entry_of stream.1.ticket ∷ es) (opened_shown streams)

-- the entries that a session knows are the entries of its tickets
known_shown : (s : Serving) → known_entries by_tails (parts_of s) ≡ known_to s
known_shown s =
    ap (λ es. map entry_of s.published_plans ++ es) (opened_shown s.streams)
    ∙ sym (map-append entry_of s.published_plans (map (λ (stream : ℕ × Bound). stream.1.ticket) s.streams))

-- a ticket that agrees with the tickets of a session agrees with the entries that the session knows
agreed_known : (s : Serving) (ticket : TicketParts) → AgreeWith (known_to s) (entry_of ticket) → AgreeWith (known_entries by_tails (parts_of s)) (entry_of ticket)
agreed_known s ticket agreed = subst (λ (entries : List Entry). AgreeWith entries (entry_of ticket)) (sym (known_shown s)) agreed

-- a request with a refusal is refused so
pub step_refused : {S : Type 0} (reading : Reading S) (before : SessionParts S) (request : RequestParts) (refusal : Refusal) → refusal_of reading before request ≡ Some refusal → IsStep reading before request (refused before request refusal)
step_refused {S} reading before request refusal is =
    let P : Option Refusal → Type 0 = λ o. MatchOption o (IsAccepted reading before request (refused before request refusal)) (λ r. refused before request refusal ≡ refused before request r) in
    subst P (sym is) refl

-- a request without one is accepted
pub step_accepted : {S : Type 0} (reading : Reading S) (before : SessionParts S) (request : RequestParts) (outcome : Outcome S) → refusal_of reading before request ≡ None → IsAccepted reading before request outcome → IsStep reading before request outcome
step_accepted {S} reading before request outcome none accepted =
    let P : Option Refusal → Type 0 = λ o. MatchOption o (IsAccepted reading before request outcome) (λ r. outcome ≡ refused before request r) in
    subst P (sym none) accepted

-- a refused request is an event that changes nothing
pub event_refused : (s : Serving) (request : RequestParts) (refusal : Refusal) (reply : ReplyParts) → refusal_of by_tails (parts_of s) request ≡ Some refusal → reply ≡ refused_reply (stream_of request) refusal → IsEvent s request (reply ∷ []) s
event_refused s request refusal reply is replied =
    let P : ReplyParts → Type 0 = λ r. IsEvent s request (r ∷ []) s in
    subst P (sym replied) record { met = None; step = step_refused by_tails (parts_of s) request refusal is; store = refl }

-- the number of published plans is a number of entries
published_count : (s : Serving) (literals : List (List ℕ)) → publish_refusal (length (parts_of s).published_plans) literals ≡ publish_refusal (length s.published_plans) literals
published_count s literals = ap (λ n. publish_refusal n literals) (length-map s.published_plans entry_of)

-- a Publish that is stored
pub published_entry : (s : Serving) (fold : Fold) (profile : Profile) (literals : List (List ℕ)) (ticket : TicketParts) (reply : ReplyParts) (new : Serving) → None ≡ publish_refusal (length s.published_plans) literals → IsSoundPlanOf fold profile literals ticket.plan → AgreeWith (known_to s) (entry_of ticket) → reply ≡ Published ticket.number → new ≡ record s { published_plans = s.published_plans ++ ticket ∷ [] } → IsEvent s (Publish fold profile literals) (reply ∷ []) new
published_entry s fold profile literals ticket reply new none planned agreed replied after =
    let outcome : Outcome Bound = record { replies = reply ∷ []; met = Some (entry_of ticket); after = parts_of new } in
    let parts : parts_of new ≡ (published (parts_of s) (entry_of ticket)).after =
    ap parts_of after ∙ ap (λ entries. record { published_plans = entries; streams = s.streams }) (map-append entry_of s.published_plans (ticket ∷ [])) in
    let is : outcome ≡ published (parts_of s) (entry_of ticket) =
    λ i. record { replies = replied i ∷ []; met = Some (entry_of ticket); after = parts i } in
    record {
      met = Some (entry_of ticket);
      step = step_accepted by_tails (parts_of s) (Publish fold profile literals) outcome (published_count s literals ∙ sym none)
          record { entry = entry_of ticket; plan = planned.planned; sound = planned.sound; agreed = agreed_known s ticket agreed; is = is };
      store = ap (λ (n : Serving). n.store) after;
    }

-- a request of a stream that is not open
pub no_stream : (s : Serving) (stream : ℕ) (refusal : Bound → Option Refusal) → lookup (nat_eq stream) s.streams ≡ None → stream_refusal (stream_at stream (parts_of s)) refusal ≡ Some NoSuchStream
no_stream s stream refusal none = ap (λ o. stream_refusal o refusal) none

-- and of an open stream
pub a_stream : (s : Serving) (stream place : ℕ) (refusal : Bound → Option Refusal) (at : StandsAt stream s.streams place) → stream_refusal (stream_at stream (parts_of s)) refusal ≡ refusal at.state
a_stream s stream place refusal at = ap (λ o. stream_refusal o refusal) (lookup_at stream s.streams place at)

-- a Close
pub closed_stream : (s : Serving) (stream place : ℕ) (new : Serving) → StandsAt stream s.streams place → new ≡ record s { streams = remove s.streams place } → IsEvent s (Close stream) (Closed stream ∷ []) new
closed_stream s stream place new at after =
    let outcome : Outcome Bound = record { replies = Closed stream ∷ []; met = None; after = parts_of new } in
    let parts : parts_of new ≡ (closed (parts_of s) stream).after =
    ap parts_of after ∙ ap (λ streams. record { published_plans = map entry_of s.published_plans; streams = streams }) (remove_at stream s.streams place at) in
    let is : outcome ≡ closed (parts_of s) stream = ap (λ parts. record { replies = Closed stream ∷ []; met = None; after = parts }) parts in
    record {
      met = None;
      step = step_accepted by_tails (parts_of s) (Close stream) outcome (a_stream s stream place (λ state. None) at) is;
      store = ap (λ (n : Serving). n.store) after;
    }

-- a ShowPlan
pub shown_plan : (s : Serving) (stream place : ℕ) (reply : ReplyParts) → (at : StandsAt stream s.streams place) → reply ≡ plan_reply stream at.state.scan.plan → IsEvent s (ShowPlan stream) (reply ∷ []) s
shown_plan s stream place reply at replied =
    let P : ReplyParts → Type 0 = λ r. IsEvent s (ShowPlan stream) (r ∷ []) s in
    subst P (sym replied) record {
      met = None;
      step = step_accepted by_tails (parts_of s) (ShowPlan stream) (shown (parts_of s) stream at.state.scan.plan) (a_stream s stream place (λ state. None) at) (at.state, lookup_at stream s.streams place at, refl);
      store = refl;
    }

-- a Feed
pub fed_stream : (s : Serving) (stream place : ℕ) (piece : List ℕ) (hits : List (ℕ × ℕ)) (blocks : List (List (ℕ × ℕ))) (next : ℕ × Bound) (new : Serving) → (at : StandsAt stream s.streams place) → MovesTo (stream, at.state) piece [] hits next → AreBlocks MAX_HITS hits blocks → new ≡ record s { streams = set s.streams place next } → IsEvent s (Feed stream piece) (fed_replies stream blocks next.1.scan.place) new
fed_stream s stream place piece hits blocks next new at moves cut after =
    let old = at.state in
    let state : next.1 ≡ record old { scan = fed old.scan piece } = ap (λ (n : ℕ × Bound). n.1) moves.state in
    let number : next.0 ≡ stream = ap (λ (n : ℕ × Bound). n.0) moves.state in
    let reached : next.1.scan.place ≡ old.scan.place + length piece = ap (λ (b : Bound). b.scan.place) state in
    let fits = moves.fits in
    let room : nat_le (2 ^ 64) (old.scan.place + length piece) ≡ false = grind (arith, nat_tests) in
    let none : refusal_of by_tails (parts_of s) (Feed stream piece) ≡ None =
    a_stream s stream place (λ state. if nat_le (2 ^ 64) (state.scan.place + length piece) then Some StreamTooLong else None) at
    ∙ ap (λ b. if b then Some StreamTooLong else None) room in
    let added : AreAdded old.scan.plan.literals old.scan.tail piece old.scan.place hits =
    subst (AreAdded old.scan.plan.literals old.scan.tail piece old.scan.place) (sym moves.hits.grown) moves.hits.added in
    let streams : set s.streams place next ≡ set_value (nat_eq stream) s.streams next.1 =
    ap (λ n. set s.streams place (n, next.1)) number ∙ set_at stream s.streams place next.1 at in
    let parts : parts_of new ≡ (moved (parts_of s) stream blocks (old.scan.place + length piece) next.1).after =
    ap parts_of after ∙ ap (λ streams. record { published_plans = map entry_of s.published_plans; streams = streams }) streams in
    let outcome : Outcome Bound = record { replies = fed_replies stream blocks next.1.scan.place; met = None; after = parts_of new } in
    let is : outcome ≡ moved (parts_of s) stream blocks (old.scan.place + length piece) next.1 =
    λ i. record { replies = fed_replies stream blocks (reached i); met = None; after = parts i } in
    record {
      met = None;
      step = step_accepted by_tails (parts_of s) (Feed stream piece) outcome none
          (old, lookup_at stream s.streams place at, record { hits = hits; blocks = blocks; next = next.1; moves = (state, added); cut = cut; is = is });
      store = ap (λ (n : Serving). n.store) after;
    }

-- a Feed of a stream that would be too long
pub fed_too_long : (s : Serving) (stream place : ℕ) (piece : List ℕ) → (at : StandsAt stream s.streams place) → 2 ^ 64 ≤ at.state.scan.place + length piece → refusal_of by_tails (parts_of s) (Feed stream piece) ≡ Some StreamTooLong
fed_too_long s stream place piece at long =
    let over : nat_le (2 ^ 64) (at.state.scan.place + length piece) ≡ true = grind (arith, nat_tests) in
    a_stream s stream place (λ state. if nat_le (2 ^ 64) (state.scan.place + length piece) then Some StreamTooLong else None) at
    ∙ ap (λ b. if b then Some StreamTooLong else None) over

-- an Open of an open stream
pub opened_twice : (s : Serving) (stream number place : ℕ) → StandsAt stream s.streams place → refusal_of by_tails (parts_of s) (Open stream number) ≡ Some StreamInUse
opened_twice s stream number place at =
    ap (λ o. if is_some o then Some StreamInUse else if nat_le MAX_STREAMS (length s.streams) then Some StreamQuota else None) (lookup_at stream s.streams place at)

-- an Open that meets no refusal, whatever its number
pub opened_free : (s : Serving) (stream number : ℕ) → lookup (nat_eq stream) s.streams ≡ None → length s.streams < MAX_STREAMS → refusal_of by_tails (parts_of s) (Open stream number) ≡ None
opened_free s stream number none few =
    let room : nat_le MAX_STREAMS (length s.streams) ≡ false = grind (arith, nat_tests) in
    ap (λ o. if is_some o then Some StreamInUse else if nat_le MAX_STREAMS (length s.streams) then Some StreamQuota else None) none
    ∙ ap (λ b. if b then Some StreamQuota else None) room

-- an Open that finds an entry
pub opened_stream : (s : Serving) (stream number : ℕ) (ticket : TicketParts) (reply : ReplyParts) (new : Serving) → refusal_of by_tails (parts_of s) (Open stream number) ≡ None → IsSound ticket.plan → AgreeWith (known_to s) (entry_of ticket) → ticket.number ≡ number → reply ≡ Opened stream → new ≡ record s { streams = s.streams ++ (stream, record { ticket = ticket; scan = started ticket.plan 0 }) ∷ [] } → IsEvent s (Open stream number) (reply ∷ []) new
opened_stream s stream number ticket reply new none sound agreed asked replied after =
    let state : Bound = record { ticket = ticket; scan = started ticket.plan 0 } in
    let outcome : Outcome Bound = record { replies = reply ∷ []; met = Some (entry_of ticket); after = parts_of new } in
    let is : outcome ≡ opened (parts_of s) stream (entry_of ticket) state =
    λ i. record { replies = replied i ∷ []; met = Some (entry_of ticket); after = parts_of (after i) } in
    record {
      met = Some (entry_of ticket);
      step = step_accepted by_tails (parts_of s) (Open stream number) outcome none
          (inl record { entry = entry_of ticket; state = state; asked = asked; sound = sound; agreed = agreed_known s ticket agreed; begins = (refl, refl); is = is });
      store = ap (λ (n : Serving). n.store) after;
    }

-- the numbers of the entries are the numbers of the tickets
numbers_shown : (tickets : List TicketParts) → map (λ (entry : Entry). entry.number) (map entry_of tickets) ≡ map (λ (ticket : TicketParts). ticket.number) tickets
numbers_shown [] = refl
numbers_shown (ticket ∷ tickets) = ap (λ ns. ticket.number ∷ ns) (numbers_shown tickets)

-- an Open that finds none
pub opened_none : (s : Serving) (stream number : ℕ) (reply : ReplyParts) → refusal_of by_tails (parts_of s) (Open stream number) ≡ None → ¬ Contains (map (λ (ticket : TicketParts). ticket.number) (tickets_of s)) number → reply ≡ refused_reply stream NoSuchPlan → IsEvent s (Open stream number) (reply ∷ []) s
opened_none s stream number reply none stranger replied =
    let P : ReplyParts → Type 0 = λ r. IsEvent s (Open stream number) (r ∷ []) s in
    subst P (sym replied) record {
      met = None;
      step = step_accepted by_tails (parts_of s) (Open stream number) (refused (parts_of s) (Open stream number) NoSuchPlan) none
          (inr record { stranger = subst (λ ns. ¬ Contains ns number) (sym (ap (map (λ (entry : Entry). entry.number)) (known_shown s) ∙ numbers_shown (tickets_of s))) stranger; is = refl });
      store = refl;
    }

-- the code in the first of some replies, if that is a refusal
abbrev first_code : List ReplyParts → ℕ
first_code [] = 0
first_code (Published number ∷ replies) = 0
first_code (Opened stream ∷ replies) = 0
first_code (Hits stream hits ∷ replies) = 0
first_code (Fed stream place ∷ replies) = 0
first_code (Closed stream ∷ replies) = 0
first_code (Plan stream fold profile count cost ends ∷ replies) = 0
first_code (Refused stream code detail ∷ replies) = code

-- a refusal with another code is not that there is no such plan
pub other_refusal : (stream : ℕ) (why : Refusal) (reply : ReplyParts) → reply ≡ refused_reply stream why → code_of why ≢ code_of NoSuchPlan → reply ∷ [] ≢ refused_reply stream NoSuchPlan ∷ []
other_refusal stream why reply is other = λ same. other (ap first_code (sym (ap (λ (r : ReplyParts). r ∷ []) is) ∙ same))

-- nor is the reply to an Open
pub opened_reply : (stream other : ℕ) → Opened stream ∷ [] ≢ refused_reply other NoSuchPlan ∷ []
opened_reply stream other = λ same. omega (arith, ap first_code same)
