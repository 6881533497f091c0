use Rattle.std.proofs.Common.{ℕ, ◌∷◌, [], List, ap, subst}
use Rattle.scan_wire.specs.Messages.{Close, Closed}
use Rattle.scan_core.specs.Sessions.{Bound, IsBound, IsEvent, Serving}
use Rattle.scan_core.proofs.ServingLemmas.{All-remove}
use Rattle.scan_core.proofs.StepLemmas.{closed_stream}
use Rattle.scan_core.proofs.session.Session.close.Goals as goal

pub invariant_of-self : goal.invariant_of-self
invariant_of-self c =
    let Here : ℕ × Bound → Type 0 = λ stream. IsBound c.self.inside.store.now stream.1 in
    record {
      serving = record {
        published_plans = c.self.invariant.serving.published_plans;
        streams = rw c.remove.ensures (All-remove Here c.self.inside.streams c.in-Some.place c.self.invariant.serving.streams);
      };
      own = c.self.invariant.own;
    }

pub returns : goal.returns
returns c =
    let s : Serving = record { store = c.self.inside.store.now; published_plans = c.self.inside.published_plans; streams = c.self.inside.streams } in
    let new : Serving = record { store = c.self.inside.store.now; published_plans = c.self.inside.published_plans; streams = c.remove.new.self } in
    subst (λ (t : Serving). IsEvent t (Close c.args.stream) (Closed c.args.stream ∷ []) new) c.self.view_is
    (closed_stream s c.args.stream c.in-Some.place new c.in-Some.ensures
    (ap (λ (streams : List (ℕ × Bound)). record s { streams = streams }) c.remove.ensures))
