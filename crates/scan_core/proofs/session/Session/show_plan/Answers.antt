use Rattle.std.proofs.Common.{◌≡◌, ℕ, ◌∷◌, [], None, ap, ◌∙◌, subst}
use Rattle.std.proofs.lemmas.Option.{get_or_from_slice_get}
use Rattle.std.proofs.lemmas.Result.{IfErr-weaker, IfOk-weaker}
use Rattle.scan_wire.specs.Messages.{ShowPlan, reply_parts}
use Rattle.scan_core.specs.declared.fault.Fault.TheVariants.{OutOfMemory}
use Rattle.scan_core.specs.declared.refusal.Refusal.TheVariants.{NoSuchStream}
use Rattle.scan_core.specs.Sessions.{Bound, IsEvent, Serving, by_tails, parts_of}
use Rattle.scan_core.specs.Steps.{plan_reply, refusal_of}
use Rattle.scan_core.proofs.StepLemmas.{a_stream, event_refused, no_stream, shown_plan}
use Rattle.scan_core.proofs.session.Session.show_plan.Goals as goal

pub returns-in_default-clause-ok : goal.returns-in_default-clause-ok
returns-in_default-clause-ok c =
    let request = ShowPlan c.args.stream in
    let reply = reply_parts c.reply.result in
    let s : Serving = record { store = c.self.inside.store.now; published_plans = c.self.inside.published_plans; streams = c.self.inside.streams } in
    subst (λ (t : Serving). IsEvent t request (reply ∷ []) t) c.self.view_is
    (event_refused s request NoSuchStream reply (no_stream s c.args.stream (λ state. None) c.in_default.ensures) c.reply.ensures)

pub returns-clause-ok : goal.returns-clause-ok
returns-clause-ok c =
    let request = ShowPlan c.args.stream in
    let s : Serving = record { store = c.self.inside.store.now; published_plans = c.self.inside.published_plans; streams = c.self.inside.streams } in
    let at = c.in-Some.ensures in
    let now = c.get.result.now in
    let got : now ≡ (c.args.stream, at.state) = c.get.ensures ∙ get_or_from_slice_get s.streams c.in-Some.place (c.args.stream, at.state) now at.here in
    IfOk-weaker c.plan_reply.result (λ reply. reply_parts reply ≡ plan_reply now.0 now.1.scan.plan) (λ reply. IsEvent c.args.self.now request (reply_parts reply ∷ []) c.args.self.now)
    (λ reply replied. subst (λ (t : Serving). IsEvent t request (reply_parts reply ∷ []) t) c.self.view_is
    (shown_plan s c.args.stream c.in-Some.place (reply_parts reply) at (replied ∙ ap (λ (n : ℕ × Bound). plan_reply n.0 n.1.scan.plan) got)))
    c.plan_reply.ensures.ok

pub returns-clause-accepted : goal.returns-clause-accepted
returns-clause-accepted c =
    let request = ShowPlan c.args.stream in
    let s : Serving = record { store = c.self.inside.store.now; published_plans = c.self.inside.published_plans; streams = c.self.inside.streams } in
    let none : refusal_of by_tails (parts_of c.args.self.now) request ≡ None =
    subst (λ (t : Serving). refusal_of by_tails (parts_of t) request ≡ None) c.self.view_is
    (a_stream s c.args.stream c.in-Some.place (λ state. None) c.in-Some.ensures) in
    IfErr-weaker c.plan_reply.result (λ fault. fault ≡ OutOfMemory) (λ fault. refusal_of by_tails (parts_of c.args.self.now) request ≡ None) (λ fault is. none) c.plan_reply.ensures.fault
