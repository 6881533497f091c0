use Rattle.std.proofs.Common.{◌≡◌, ◌∷◌, [], List, length, None, sym, ap, ◌∙◌, subst}
use Rattle.std.proofs.lemmas.List.Elements.{All-push}
use Rattle.plan_store.specs.Tickets.{IsOf, TicketParts}
use Rattle.scan_wire.specs.Messages.{Publish, Published, texts_of}
use Rattle.scan_core.specs.Publishing.{IsSoundPlanOf}
use Rattle.scan_core.specs.Refusals.{publish_refusal}
use Rattle.scan_core.specs.Sessions.{IsEvent, Serving}
use Rattle.scan_core.specs.Together.{AgreesWith}
use Rattle.scan_core.proofs.StepLemmas.{published_entry}
use Rattle.scan_core.proofs.TicketLemmas.{known_agree}
use Rattle.scan_core.proofs.session.Session.publish.Goals as goal

pub invariant_of-self : goal.invariant_of-self
invariant_of-self g c = record {
  serving = record {
    published_plans = rw c.push.ensures (All-push (IsOf c.self.inside.store.now) c.self.inside.published_plans c.in-Ok.ticket c.self.invariant.serving.published_plans c.in-Ok.ensures.here);
    streams = c.self.invariant.serving.streams;
  };
  own = c.self.invariant.own;
}

pub returns-clause-ok : goal.returns-clause-ok
returns-clause-ok g c =
    let texts = texts_of c.args.literals.now in
    let s : Serving = record { store = c.self.inside.store.now; published_plans = c.self.inside.published_plans; streams = c.self.inside.streams } in
    let none : None ≡ publish_refusal (length s.published_plans) texts =
    sym c.in_default.is ∙ c.refusal_of_literals.ensures ∙ ap (λ n. publish_refusal n texts) c.len.ensures.len in
    let ticket = c.in-Ok.ticket in
    let new : Serving = record s { published_plans = c.push.new.self } in
    subst (λ (t : Serving). IsEvent t (Publish c.args.fold c.args.profile texts) (Published c.number-number.result ∷ []) new) c.self.view_is
    (published_entry s c.args.fold c.args.profile texts ticket (Published c.number-number.result) new none
    (subst (IsSoundPlanOf c.args.fold c.args.profile texts) (sym c.in-Ok.ensures.plan) c.in_ok-plan.ensures.plan)
    (known_agree s ticket (subst (AgreesWith ticket) (sym c.self.view_is) c.agrees_with.ensures))
    (ap Published c.number-number.ensures)
    (ap (λ (published_plans : List TicketParts). record s { published_plans = published_plans }) c.push.ensures))
