use Rattle.std.proofs.Common.{[], refl, subst}
use Rattle.scan_serve.specs.Serving.{EndsAs}
use Rattle.scan_core.specs.Sessions.{IsEvent, Serving, fresh}
use Rattle.scan_core.specs.Steps.{new_session}
use Rattle.scan_run.proofs.SeenLemmas.{ends_seen}
use Rattle.scan_run.proofs.serving.serve.Goals as goal

pub returns-clause-ends : goal.returns-clause-ends
returns-clause-ends g c =
    (c.serve_session-ended.result.1, subst (λ (s : Serving). EndsAs IsEvent s c.serve_session-ended.result.1 (g.I.ByteIn.coming c.args.input.now) (g.I.ByteIn.coming c.serve_session-ended.new.input) (g.O.ByteOut.written c.args.out.now) (g.O.ByteOut.written c.serve_session-ended.new.out) [] c.serve_session-ended.result.0) c.new.ensures c.serve_session-ended.ensures.ends)

pub returns-clause-bytes : goal.returns-clause-bytes
returns-clause-bytes g c =
    let ends = subst (λ (s : Serving). EndsAs IsEvent s c.serve_session-ended.result.1 (g.I.ByteIn.coming c.args.input.now) (g.I.ByteIn.coming c.serve_session-ended.new.input) (g.O.ByteOut.written c.args.out.now) (g.O.ByteOut.written c.serve_session-ended.new.out) [] c.serve_session-ended.result.0) c.new.ensures c.serve_session-ended.ensures.ends in
    ends_seen (fresh c.args.store.now) c.serve_session-ended.result.1 new_session _ _ _ _ [] c.serve_session-ended.result.0 record { published_plans = refl; streams = tt } ends
