use Rattle.std.proofs.Common.{◌∙◌, ◌++◌, ℕ, List, ap, refl}
use Rattle.scan_wire.specs.Frames.{reply_text}
use Rattle.scan_wire.specs.Messages.{Hits}
use Rattle.scan_serve.specs.declared.stop.Stop.TheVariants.{WriteFault}
use Rattle.scan_serve.proofs.SendLemmas.{added_failed, err_holds, err_weaker, less_none, no_starving, reply_some}
use Rattle.scan_serve.proofs.outbox.Outbox.push_hits.Goals as goal

pub returns-in_default-clause-err : goal.returns-in_default-clause-err
returns-in_default-clause-err g c = less_none _ _ _ (reply_some (Hits c.args.stream c.args.hits.now))

pub returns-clause-err : goal.returns-clause-err
returns-clause-err g c =
    let text = reply_text (Hits c.args.stream c.args.hits.now) in
    err_weaker c.flush_full.result
    (added_failed _ _ c.args.self.now text c.append_hits.new.out.items (c.in-Ok.ensures.ok ∙ ap (λ (x : List ℕ). x ++ text) c.self.view_is))
    c.flush_full.ensures.err

pub returns-in_default-clause-starved : goal.returns-in_default-clause-starved
returns-in_default-clause-starved g c = λ e. (c.in_default.ensures.same ∙ c.self.view_is, refl)

pub returns-clause-starved : goal.returns-clause-starved
returns-clause-starved g c = λ e. absurd (no_starving c.flush_full.result c.flush_full.ensures.stopped e)

pub returns-clause-broken : goal.returns-clause-broken
returns-clause-broken g c = λ e.
    let text = reply_text (Hits c.args.stream c.args.hits.now) in
    err_holds c.flush_full.result WriteFault e c.flush_full.ensures.kept ∙ (c.in-Ok.ensures.ok ∙ ap (λ (x : List ℕ). x ++ text) c.self.view_is)
