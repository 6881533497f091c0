use Rattle.std.proofs.Common.{◌≡◌, ℕ, ◌+◌, ◌^◌, ◌≤◌, ◌++◌, ◌∷◌, [], List, length, sym, ap, ◌∙◌, subst, arith}
use Rattle.std.proofs.lemmas.List.Elements.{All-get_or, All-set}
use Rattle.std.proofs.lemmas.Option.{MatchOption-at_none, MatchOption-at_some, get_or_from_slice_get, slice_get_within}
use Rattle.scan_wire.specs.Messages.{Feed, reply_parts}
use Rattle.scan_core.specs.declared.refusal.Refusal.TheVariants.{NoSuchStream, StreamTooLong}
use Rattle.scan_core.specs.Sessions.{Bound, IsBound, IsEvent, Serving, replies_of}
use Rattle.scan_core.specs.Steps.{fed_replies}
use Rattle.scan_core.specs.Streams.{MovesTo}
use Rattle.scan_core.proofs.BlockLemmas.{replies_push}
use Rattle.scan_core.proofs.StepLemmas.{event_refused, fed_stream, fed_too_long, no_stream}
use Rattle.scan_core.proofs.session.Session.feed.Goals as goal

pub returns-in_default-clause-ok : goal.returns-in_default-clause-ok
returns-in_default-clause-ok c =
    let request = Feed c.args.stream c.args.piece.now in
    let reply = reply_parts c.reply.result in
    let s : Serving = record { store = c.self.inside.store.now; published_plans = c.self.inside.published_plans; streams = c.self.inside.streams } in
    record {
      replies = reply ∷ [];
      grown = replies_push c.args.out.now.items c.push.new.self.items c.reply.result c.in_ok-push.ensures.items;
      event = subst (λ (t : Serving). IsEvent t request (reply ∷ []) t) c.self.view_is
          (event_refused s request NoSuchStream reply (no_stream s c.args.stream _ c.in_default.ensures) c.reply.ensures);
    }

pub get-requires : goal.get-requires
get-requires c = (omega arith, slice_get_within c.self.inside.streams c.in-Some.place (c.args.stream, c.in-Some.ensures.state) c.in-Some.ensures.here)

pub returns-in_default-2-clause-ok : goal.returns-in_default-2-clause-ok
returns-in_default-2-clause-ok c =
    let piece = c.args.piece.now in
    let request = Feed c.args.stream piece in
    let reply = reply_parts c.reply-in_default-2.result in
    let s : Serving = record { store = c.self.inside.store.now; published_plans = c.self.inside.published_plans; streams = c.self.inside.streams } in
    let at = c.in-Some.ensures in
    let now = c.get.result.now in
    let got : now ≡ (c.args.stream, at.state) = c.get.ensures ∙ get_or_from_slice_get s.streams c.in-Some.place (c.args.stream, at.state) now at.here in
    let long : 2 ^ 64 ≤ now.1.scan.place + length piece =
    MatchOption-at_none (2 ^ 64 ≤ now.1.scan.place + length piece) _ c.in_default-2.is c.in_ok-next.ensures.ok in
    let over : 2 ^ 64 ≤ at.state.scan.place + length piece = subst (λ (n : ℕ × Bound). 2 ^ 64 ≤ n.1.scan.place + length piece) got long in
    record {
      replies = reply ∷ [];
      grown = replies_push c.args.out.now.items c.push-in_default-2.new.self.items c.reply-in_default-2.result c.in_ok-push-2.ensures.items;
      event = subst (λ (t : Serving). IsEvent t request (reply ∷ []) t) c.self.view_is
          (event_refused s request StreamTooLong reply (fed_too_long s c.args.stream c.in-Some.place piece at over) c.reply-in_default-2.ensures);
    }

pub set-requires : goal.set-requires
set-requires c = (omega arith, slice_get_within c.self.inside.streams c.in-Some.place (c.args.stream, c.in-Some.ensures.state) c.in-Some.ensures.here)

pub invariant_of-self : goal.invariant_of-self
invariant_of-self c =
    let store = c.self.inside.store.now in
    let streams = c.self.inside.streams in
    let now = c.get.result.now in
    let Here : ℕ × Bound → Type 0 = λ stream. IsBound store stream.1 in
    let within = slice_get_within streams c.in-Some.place (c.args.stream, c.in-Some.ensures.state) c.in-Some.ensures.here in
    let old : Here now = subst Here (sym c.get.ensures) (All-get_or Here streams c.in-Some.place now within c.self.invariant.serving.streams) in
    let moves : MovesTo now c.args.piece.now c.new-hits.result.items c.fed.new.out.items c.in-Some-2.next = MatchOption-at_some _ _ c.in-Some-2.next c.in-Some-2.is c.in_ok-next.ensures.ok in
    let next : Here c.in-Some-2.next = subst Here (sym moves.state) record { here = old.here; plan = old.plan } in
    record {
      serving = record {
        published_plans = c.self.invariant.serving.published_plans;
        streams = rw c.set.ensures (All-set Here streams c.in-Some.place c.in-Some-2.next next c.self.invariant.serving.streams);
      };
      own = c.self.invariant.own;
    }

pub returns-clause-ok : goal.returns-clause-ok
returns-clause-ok c =
    let piece = c.args.piece.now in
    let request = Feed c.args.stream piece in
    let s : Serving = record { store = c.self.inside.store.now; published_plans = c.self.inside.published_plans; streams = c.self.inside.streams } in
    let at = c.in-Some.ensures in
    let now = c.get.result.now in
    let next = c.in-Some-2.next in
    let hits = c.fed.new.out.items in
    let got : now ≡ (c.args.stream, at.state) = c.get.ensures ∙ get_or_from_slice_get s.streams c.in-Some.place (c.args.stream, at.state) now at.here in
    let moved : MovesTo now piece c.new-hits.result.items hits next = MatchOption-at_some _ _ next c.in-Some-2.is c.in_ok-next.ensures.ok in
    let moves : MovesTo (c.args.stream, at.state) piece [] hits next =
    subst (λ hs. MovesTo (c.args.stream, at.state) piece hs hits next) c.new-hits.ensures.items
    (subst (λ (n : ℕ × Bound). MovesTo n piece c.new-hits.result.items hits next) got moved) in
    let replies_hits = c.in_ok-push_answer.ensures.ok in
    let new : Serving = record s { streams = c.set.new.self } in
    record {
      replies = fed_replies c.args.stream replies_hits.blocks next.1.scan.place;
      grown = replies_hits.grown ∙ ap (λ p. replies_of c.args.out.now.items ++ fed_replies c.args.stream replies_hits.blocks p) c.place.ensures;
      event = subst (λ (t : Serving). IsEvent t request (fed_replies c.args.stream replies_hits.blocks next.1.scan.place) new) c.self.view_is
          (fed_stream s c.args.stream c.in-Some.place piece hits replies_hits.blocks next new at moves (rw (← c.deref.ensures.value) replies_hits.cut)
          (ap (λ (streams : List (ℕ × Bound)). record s { streams = streams }) c.set.ensures));
    }
