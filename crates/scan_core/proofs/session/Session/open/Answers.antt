use Rattle.std.proofs.Common.{◌≡◌, ℕ, ◌<◌, ◌++◌, ◌∷◌, [], List, length, map, None, Contains, refl, sym, ap, ◌∙◌, subst, arith}
use Rattle.std.specs.Prelude.{nat_eq}
use Rattle.std.specs.Map.{lookup}
use Rattle.std.proofs.lemmas.List.Elements.{All-push}
use Rattle.plan_store.specs.Tickets.{IsOf, TicketParts}
use Rattle.flow_scan.specs.Scanners.{started}
use Rattle.scan_wire.specs.Messages.{Open, Opened, reply_parts}
use Rattle.scan_core.specs.declared.limits.TheConstants.{MAX_STREAMS}
use Rattle.scan_core.specs.declared.refusal.Refusal.TheVariants.{StreamInUse}
use Rattle.scan_core.specs.Sessions.{Bound, IsBound, IsEvent, Serving}
use Rattle.scan_core.specs.Steps.{IsSound}
use Rattle.scan_core.specs.Streams.{StandsAt}
use Rattle.scan_core.specs.Together.{AgreesWith, tickets_of}
use Rattle.scan_core.proofs.ServingLemmas.{found, found_none}
use Rattle.scan_core.proofs.StepLemmas.{event_refused, opened_free, opened_none, opened_reply, opened_stream, opened_twice, other_refusal}
use Rattle.scan_core.proofs.TicketLemmas.{known_agree}
use Rattle.scan_core.proofs.session.Session.open.Goals as goal

pub returns-then-is_some-clause-ok : goal.returns-then-is_some-clause-ok
returns-then-is_some-clause-ok c =
    let request = Open c.args.stream c.args.number in
    let reply = reply_parts c.reply.result in
    let s : Serving = record { store = c.self.inside.store.now; published_plans = c.self.inside.published_plans; streams = c.self.inside.streams } in
    let at = found c.find_stream.result (lookup (nat_eq c.args.stream) s.streams ≡ None) (StandsAt c.args.stream s.streams) c.find_stream.ensures (sym c.is_some.ensures ∙ c.if-is_some.true) in
    subst (λ (t : Serving). IsEvent t request (reply ∷ []) t) c.self.view_is
    (event_refused s request StreamInUse reply (opened_twice s c.args.stream c.args.number at.0 at.1) c.reply.ensures)

pub returns-in_default-clause-ok : goal.returns-in_default-clause-ok
returns-in_default-clause-ok c =
    let request = Open c.args.stream c.args.number in
    let reply = reply_parts c.reply-in_default.result in
    let s : Serving = record { store = c.self.inside.store.now; published_plans = c.self.inside.published_plans; streams = c.self.inside.streams } in
    let free = found_none c.find_stream.result (lookup (nat_eq c.args.stream) s.streams ≡ None) (StandsAt c.args.stream s.streams) c.find_stream.ensures (sym c.is_some.ensures ∙ c.if-is_some.false) in
    let few : length s.streams < MAX_STREAMS = omega (arith, c.len.ensures.len, c.if-len-ge-MAX_STREAMS.false) in
    let stranger : ¬ Contains (map (λ (ticket : TicketParts). ticket.number) (tickets_of s)) c.args.number =
    subst (λ (t : Serving). ¬ Contains (map (λ (ticket : TicketParts). ticket.number) (tickets_of t)) c.args.number) (sym c.self.view_is) c.in_default.ensures.stranger in
    subst (λ (t : Serving). IsEvent t request (reply ∷ []) t) c.self.view_is
    (opened_none s c.args.stream c.args.number reply (opened_free s c.args.stream c.args.number free few) stranger c.reply-in_default.ensures)

pub invariant_of-self : goal.invariant_of-self
invariant_of-self c =
    let store = c.self.inside.store.now in
    let ticket = c.in-Some.ticket in
    let Here : ℕ × Bound → Type 0 = λ stream. IsBound store stream.1 in
    let here : IsOf store ticket = subst (λ (t : Serving). IsOf t.store ticket) (sym c.self.view_is) c.in-Some.ensures.here in
    let bound : Here (c.args.stream, record { ticket = ticket; scan = started ticket.plan 0 }) = record { here = here; plan = refl } in
    let is : c.in-Ok.opened ≡ (c.args.stream, record { ticket = ticket; scan = started ticket.plan 0 }) =
    c.in-Ok.ensures.ok ∙ ap (λ (t : TicketParts). (c.args.stream, record { ticket = t; scan = started t.plan 0 })) c.again.ensures in
    record {
      serving = record {
        published_plans = c.self.invariant.serving.published_plans;
        streams = rw c.push.ensures (All-push Here c.self.inside.streams c.in-Ok.opened c.self.invariant.serving.streams (subst Here (sym is) bound));
      };
      own = c.self.invariant.own;
    }

pub returns-clause-ok : goal.returns-clause-ok
returns-clause-ok c =
    let request = Open c.args.stream c.args.number in
    let s : Serving = record { store = c.self.inside.store.now; published_plans = c.self.inside.published_plans; streams = c.self.inside.streams } in
    let new : Serving = record s { streams = c.push.new.self } in
    let free = found_none c.find_stream.result (lookup (nat_eq c.args.stream) s.streams ≡ None) (StandsAt c.args.stream s.streams) c.find_stream.ensures (sym c.is_some.ensures ∙ c.if-is_some.false) in
    let few : length s.streams < MAX_STREAMS = omega (arith, c.len.ensures.len, c.if-len-ge-MAX_STREAMS.false) in
    let grown : c.push.new.self ≡ s.streams ++ (c.args.stream, record { ticket = c.in-Some.ticket; scan = started c.in-Some.ticket.plan 0 }) ∷ [] =
    c.push.ensures ∙ ap (λ (item : ℕ × Bound). s.streams ++ item ∷ []) (c.in-Ok.ensures.ok ∙ ap (λ (t : TicketParts). (c.args.stream, record { ticket = t; scan = started t.plan 0 })) c.again.ensures) in
    let agreed : AgreesWith c.in-Some.ticket s = subst (AgreesWith c.in-Some.ticket) (sym c.self.view_is) c.agrees_with.ensures in
    subst (λ (t : Serving). IsEvent t request (Opened c.args.stream ∷ []) new) c.self.view_is
    (opened_stream s c.args.stream c.args.number c.in-Some.ticket (Opened c.args.stream) new (opened_free s c.args.stream c.args.number free few)
    (subst (λ (t : TicketParts). IsSound t.plan) c.again.ensures c.in-Ok.ensures.sound) (known_agree s c.in-Some.ticket agreed) c.in-Some.ensures.number refl (ap (λ (streams : List (ℕ × Bound)). record s { streams = streams }) grown))

pub returns-then-is_some-clause-loaded : goal.returns-then-is_some-clause-loaded
returns-then-is_some-clause-loaded c = λ _. other_refusal c.args.stream StreamInUse (reply_parts c.reply.result) c.reply.ensures (λ same. omega (arith, same))

pub returns-in_default-clause-loaded : goal.returns-in_default-clause-loaded
returns-in_default-clause-loaded c = λ has. absurd (c.in_default.ensures.loaded has)

pub returns-clause-loaded : goal.returns-clause-loaded
returns-clause-loaded c = λ _. opened_reply c.args.stream c.args.stream
