-- What a session serves in one reading of it, it serves in another: by all bytes that its streams were fed, or beside
-- loaded plans.
use Rattle.std.proofs.Common.{◌≡◌, ◌≢◌, ℕ, List, [], ◌∷◌, Option, inl, inr, refl, sym, ap, ◌∙◌, subst}
use Rattle.byte_io.specs.Devices.{Coming}
use Rattle.plan_store.specs.Tickets.{TicketParts}
use Rattle.scan_wire.specs.Messages.{ReplyParts, RequestParts}
use Rattle.scan_serve.specs.declared.ended.Ended.{Ended}
use Rattle.scan_serve.specs.declared.ended.Ended.TheVariants as ended
use Rattle.scan_serve.specs.Answering.{AnswersText, AnswersTextPrefix, Run, Step}
use Rattle.scan_serve.specs.Serving.{EndsAs, IsServed, IsServedPrefix}
use Rattle.scan_core.specs.Carried.{IsEventOf, IsSeen}
use Rattle.scan_core.specs.Sessions.{IsEvent, Serving, parts_of}
use Rattle.scan_core.specs.Steps.{SessionParts}
use Rattle.scan_core.specs.Worlds.{Streamed}
use Rattle.scan_core.proofs.CarriedLemmas.{event_law_lem}
use Rattle.scan_run.specs.Beside.{Beside, IsEventBeside, IsStepBeside}
use Rattle.scan_run.specs.Seen.{IsStepByBytes}

-- each step of a state is a step of what the state is seen as
abbrev Carries : {S T : Type 0} → Step S → Step T → (S → T → Type 0) → Type 0
Carries {S} {T} step onto Seen =
    (s mid : S) (b : T) (r : RequestParts) (replies : List ReplyParts) → Seen s b → step s r replies mid → (c : T) × Seen mid c × onto b r replies c

-- requests one after the other
run_carried : {S T : Type 0} (step : Step S) (onto : Step T) (Seen : S → T → Type 0) → Carries step onto Seen
    → (s t : S) (b : T) (rs : List RequestParts) (replies : List ReplyParts) → Seen s b → Run step s rs replies t → (u : T) × Seen t u × Run onto b rs replies u
run_carried {S} step onto Seen carries s t b [] replies seen run = (b, subst (λ (x : S). Seen x b) (sym run.1) seen, (run.0, refl))
run_carried step onto Seen carries s t b (r ∷ rs) replies seen (first, others, mid, is, event, rest) =
    let one = carries s mid b r first seen event in
    let more = run_carried step onto Seen carries mid t one.0 rs others one.1 rest in
    (more.0, more.1, (first, others, one.0, is, one.2, more.2))

-- a text of requests and a rest
text_carried : {S T : Type 0} (step : Step S) (onto : Step T) (Seen : S → T → Type 0) → Carries step onto Seen
    → (s t : S) (b : T) (v w : Option (List ℕ)) (text rest : List ℕ) (last : List ReplyParts) → Seen s b → AnswersText step s t v w text rest last
    → (u : T) × Seen t u × AnswersText onto b u v w text rest last
text_carried step onto Seen carries s t b v w text rest last seen a =
    let run = run_carried step onto Seen carries s t b a.requests a.replies seen a.run in
    (run.0, run.1, record { requests = a.requests; replies = a.replies; are_requests = a.are_requests; text_is = a.text_is; run = run.2; written = a.written })

-- and a prefix of the replies to one
prefix_carried : {S T : Type 0} (step : Step S) (onto : Step T) (Seen : S → T → Type 0) → Carries step onto Seen
    → (s : S) (b : T) (v w : Option (List ℕ)) (text : List ℕ) → Seen s b → AnswersTextPrefix step s v w text → AnswersTextPrefix onto b v w text
prefix_carried step onto Seen carries s b v w text seen a =
    let run = run_carried step onto Seen carries s a.new b a.requests a.replies seen a.run in
    record {
      requests = a.requests;
      replies = a.replies;
      last = a.last;
      rest = a.rest;
      new = run.0;
      are_requests = a.are_requests;
      text_is = a.text_is;
      run = run.2;
      is_last = a.is_last;
      written = a.written;
      missed = a.missed;
    }

-- a stream served
served_carried : {S T : Type 0} (step : Step S) (onto : Step T) (Seen : S → T → Type 0) → Carries step onto Seen
    → (s t : S) (b : T) (c d : Option Coming) (v w : Option (List ℕ)) (held rest : List ℕ) (last : List ReplyParts) → Seen s b → IsServed step s t c d v w held rest last
    → (u : T) × Seen t u × IsServed onto b u c d v w held rest last
served_carried step onto Seen carries s t b c d v w held rest last seen a =
    let text = text_carried step onto Seen carries s t b v w _ rest last seen a.answers in
    (text.0, text.1, record { bytes = a.bytes; read = a.read; answers = text.2 })

served_prefix_carried : {S T : Type 0} (step : Step S) (onto : Step T) (Seen : S → T → Type 0) → Carries step onto Seen
    → (s : S) (b : T) (c d : Option Coming) (v w : Option (List ℕ)) (held : List ℕ) → Seen s b → IsServedPrefix step s c d v w held → IsServedPrefix onto b c d v w held
served_prefix_carried step onto Seen carries s b c d v w held seen a =
    record { bytes = a.bytes; read = a.read; answers = prefix_carried step onto Seen carries s b v w _ seen a.answers }

-- each ending; the state is still seen, unless a write failed or memory ran out
ends_carried : {S T : Type 0} (step : Step S) (onto : Step T) (Seen : S → T → Type 0) → Carries step onto Seen
    → (s t : S) (b : T) (c d : Option Coming) (v w : Option (List ℕ)) (held : List ℕ) (end : Ended) → Seen s b → EndsAs step s t c d v w held end
    → (u : T) × (end ≢ ended.WriteFault → end ≢ ended.OutOfMemory → Seen t u) × EndsAs onto b u c d v w held end
ends_carried step onto Seen carries s t b c d v w held ended.Clean seen a =
    let served = served_carried step onto Seen carries s t b c d v w held [] [] seen a.0 in
    (served.0, (λ written memory. served.1), (served.2, a.1))
ends_carried step onto Seen carries s t b c d v w held ended.Truncated seen (rest, any, waits, is, at) =
    let served = served_carried step onto Seen carries s t b c d v w held rest [] seen is in
    (served.0, (λ written memory. served.1), (rest, any, waits, served.2, at))
ends_carried step onto Seen carries s t b c d v w held ended.Bad seen (rest, cause, has, is) =
    let served = served_carried step onto Seen carries s t b c d v w held rest _ seen is in
    (served.0, (λ written memory. served.1), (rest, cause, has, served.2))
ends_carried step onto Seen carries s t b c d v w held ended.ReadFault seen (rest, waits, is) =
    let served = served_carried step onto Seen carries s t b c d v w held rest [] seen is in
    (served.0, (λ written memory. served.1), (rest, waits, served.2))
ends_carried step onto Seen carries s t b c d v w held ended.WriteFault seen a =
    (b, (λ written memory. absurd (written refl)), served_prefix_carried step onto Seen carries s b c d v w held seen a)
ends_carried step onto Seen carries s t b c d v w held ended.OutOfMemory seen (inl prefix) =
    (b, (λ written memory. absurd (memory refl)), inl (served_prefix_carried step onto Seen carries s b c d v w held seen prefix))
ends_carried step onto Seen carries s t b c d v w held ended.OutOfMemory seen (inr untouched) = (b, (λ written memory. absurd (memory refl)), inr untouched)

-- where the state is a function of what it is seen as, it ends in that
ends_at : {S : Type 0} (step : Step S) (s t u : S) (c d : Option Coming) (v w : Option (List ℕ)) (held : List ℕ) (end : Ended)
    → (end ≢ ended.WriteFault → end ≢ ended.OutOfMemory → u ≡ t) → EndsAs step s u c d v w held end → EndsAs step s t c d v w held end
ends_at {S} step s t u c d v w held ended.Clean same a = subst (λ (x : S). EndsAs step s x c d v w held ended.Clean) (same (λ e. cc) (λ e. cc)) a
ends_at {S} step s t u c d v w held ended.Truncated same a = subst (λ (x : S). EndsAs step s x c d v w held ended.Truncated) (same (λ e. cc) (λ e. cc)) a
ends_at {S} step s t u c d v w held ended.Bad same a = subst (λ (x : S). EndsAs step s x c d v w held ended.Bad) (same (λ e. cc) (λ e. cc)) a
ends_at {S} step s t u c d v w held ended.ReadFault same a = subst (λ (x : S). EndsAs step s x c d v w held ended.ReadFault) (same (λ e. cc) (λ e. cc)) a
ends_at step s t u c d v w held ended.WriteFault same a = a
ends_at step s t u c d v w held ended.OutOfMemory same a = a

-- ---- by all bytes

seen_by_bytes : Carries IsEvent IsStepByBytes (λ s b. IsSeen (parts_of s) b)
seen_by_bytes s mid b r replies seen event =
    let one : IsEventOf (record { replies = replies; met = event.met; after = parts_of mid }) b r =
    event_law_lem (parts_of s) b r record { replies = replies; met = event.met; after = parts_of mid } seen event.step in
    (one.after, one.seen, (event.met, one.step))

pub ends_seen : (s t : Serving) (b : SessionParts Streamed) (c d : Option Coming) (v w : Option (List ℕ)) (held : List ℕ) (end : Ended) → IsSeen (parts_of s) b → EndsAs IsEvent s t c d v w held end
    → (u : SessionParts Streamed) × EndsAs IsStepByBytes b u c d v w held end
ends_seen s t b c d v w held end seen a =
    let ends = ends_carried IsEvent IsStepByBytes (λ s b. IsSeen (parts_of s) b) seen_by_bytes s t b c d v w held end seen a in
    (ends.0, ends.2)

-- ---- beside loaded plans

-- a session with the tickets, and the session alone
record IsBeside (loaded : List TicketParts) (state : Beside) (s : Serving) : Type 0 where
  pub session : s ≡ state.session
  pub tickets : state.loaded ≡ loaded

beside_alone : (loaded : List TicketParts) → Carries IsStepBeside (IsEventBeside loaded) (IsBeside loaded)
beside_alone loaded s mid b r replies seen step = (
  mid.session,
  record { session = refl; tickets = step.kept ∙ seen.tickets },
  subst (λ (x : Serving). IsEventBeside loaded x r replies mid.session) (sym seen.session)
      (subst (λ (ts : List TicketParts). IsEventBeside ts s.session r replies mid.session) seen.tickets step.event),
)

pub ends_beside : (s t : Beside) (c d : Option Coming) (v w : Option (List ℕ)) (held : List ℕ) (end : Ended) → EndsAs IsStepBeside s t c d v w held end
    → EndsAs (IsEventBeside s.loaded) s.session t.session c d v w held end
ends_beside s t c d v w held end a =
    let ends = ends_carried IsStepBeside (IsEventBeside s.loaded) (IsBeside s.loaded) (beside_alone s.loaded) s t s.session c d v w held end (record { session = refl; tickets = refl }) a in
    ends_at (IsEventBeside s.loaded) s.session t.session ends.0 c d v w held end (λ written memory. (ends.1 written memory).session) ends.2

-- ---- what is left of the tickets

alone : (loaded : List TicketParts) → Carries (IsEventBeside loaded) IsEvent (λ s b. b ≡ s)
alone loaded s mid b r replies seen step = (mid, refl, subst (λ (x : Serving). IsEvent x r replies mid) (sym seen) step.event)

pub ends_alone : (loaded : List TicketParts) (s t : Serving) (c d : Option Coming) (v w : Option (List ℕ)) (held : List ℕ) (end : Ended) → EndsAs (IsEventBeside loaded) s t c d v w held end
    → EndsAs IsEvent s t c d v w held end
ends_alone loaded s t c d v w held end a =
    let ends = ends_carried (IsEventBeside loaded) IsEvent (λ s b. b ≡ s) (alone loaded) s t s c d v w held end refl a in
    ends_at IsEvent s t ends.0 c d v w held end ends.1 ends.2

-- ---- the store

-- sessions stay with their store
run_store : (s t : Serving) (rs : List RequestParts) (replies : List ReplyParts) → Run IsEvent s rs replies t → t.store ≡ s.store
run_store s t [] replies run = ap (λ (x : Serving). x.store) run.1
run_store s t (r ∷ rs) replies (first, others, mid, is, event, rest) = run_store mid t rs others rest ∙ event.store

-- a session that was served to its end, or to a bad frame or a read fault, is of its store
pub ends_store : (s t : Serving) (c d : Option Coming) (v w : Option (List ℕ)) (held : List ℕ) (end : Ended) → EndsAs IsEvent s t c d v w held end → end ≢ ended.WriteFault → end ≢ ended.OutOfMemory → t.store ≡ s.store
ends_store s t c d v w held ended.Clean a written memory = run_store s t _ _ a.0.answers.run
ends_store s t c d v w held ended.Truncated (rest, any, waits, is, at) written memory = run_store s t _ _ is.answers.run
ends_store s t c d v w held ended.Bad (rest, cause, has, is) written memory = run_store s t _ _ is.answers.run
ends_store s t c d v w held ended.ReadFault (rest, waits, is) written memory = run_store s t _ _ is.answers.run
ends_store s t c d v w held ended.WriteFault a written memory = absurd (written refl)
ends_store s t c d v w held ended.OutOfMemory a written memory = absurd (memory refl)
